use mathlib.Core.Path.{refl, sym, ◌∙◌}
use native.Mathlib.Omega.{arith}
use native.Mathlib.Numerals.{add-one}
use Rattle.base.proofs.Results.{passed_on}
use Rattle.verdict.proofs.Judgement.{then-refused}
use Rattle.table.specs.Table.{row_count, offset_of, judge_rows}
use Rattle.table.proofs.Laws.{offset-suc, size-fine, row_fine}
use Rattle.table.proofs.Judging.{judged-none, judged-more, judged-stops, judged-all}
use Rattle.table.proofs.judge_by.Goals as goal

pub returns-in_err-judge_whole : goal.returns-in_err-judge_whole
unfolding judge_rows
returns-in_err-judge_whole g c = λ f h. passed_on _ _ c.from_residual.ensures ∙ sym (then-refused _ _ _ (sym c.judge_whole.ensures ∙ c.in_err-judge_whole.was))

pub read_row-requires : goal.read_row-requires
read_row-requires g c = (c.requires, omega arith, c.loop-i.invariant.0, c.loop-i.invariant.1)

pub returns-in_err-read_row : goal.returns-in_err-read_row
unfolding row_count
returns-in_err-read_row g c = λ f h. passed_on _ _ c.from_residual-in_err-read_row.ensures
    ∙ judged-stops _ _ _ _ _ (c.loop-i.invariant.2 f h) (sym c.judge_whole.ensures ∙ c.in_ok-judge_whole.was) (omega arith) _ (sym (c.read_row.ensures.verdict f h) ∙ c.in_err-read_row.was)

pub overflow_add-at : goal.overflow_add-at
overflow_add-at g c =
    let w = size-fine _ _ _ (row_fine _ _ _ (c.read_row.ensures.row c.in_ok-read_row.was)).1 in
    omega (arith, w.1, offset-suc c.args.table.now c.loop-i.i, c.loop-i.invariant.0, c.size_at-at.ensures.0)

pub loop-i-preserved : goal.loop-i-preserved
unfolding row_count
loop-i-preserved g c =
    let z = (row_fine _ _ _ (c.read_row.ensures.row c.in_ok-read_row.was)).1 in
    let w = size-fine _ _ _ z in
    let l = c.loop-i.invariant in (
      rw add-one (omega (arith, offset-suc c.args.table.now c.loop-i.i, l.0, c.size_at-at.ensures.0)),
      omega (arith, w.1, offset-suc c.args.table.now c.loop-i.i, l.0, c.size_at-at.ensures.0),
      λ f h. judged-more _ _ _ _ _ (l.2 f h) (omega arith) (sym (c.read_row.ensures.verdict f h) ∙ c.in_ok-read_row.was) z _ c.size_at-at.ensures.0,
    )

pub returns : goal.returns
unfolding row_count
returns g c = λ f h. c.judge_left.ensures ∙ judged-all _ _ _ _ _ (c.loop-i.invariant.2 f h) (sym c.judge_whole.ensures ∙ c.in_ok-judge_whole.was) (omega arith)

pub loop-i-init : goal.loop-i-init
unfolding offset_of
loop-i-init g c = (refl, omega arith, λ f h. judged-none _ _ _)
