use mathlib.Core.Path.{sym, ◌∙◌}
use native.Mathlib.Omega.{arith}
use Rattle.base.proofs.Results.{passed_on}
use Rattle.verdict.proofs.Judgement.{then-refused}
use Rattle.boxes.specs.Boxes.{part}
use Rattle.table.specs.Table.{judge_row_by}
use Rattle.table.proofs.Laws.{offset-suc, bytes-at, size-fine, row_fine, fine-refused}
use Rattle.table.proofs.read_row.Goals as goal

pub returns-in_err-judge_row : goal.returns-in_err-judge_row
unfolding judge_row_by
returns-in_err-judge_row g c =
    let e = passed_on _ _ c.from_residual.ensures in
    record {
      verdict = λ f h. e ∙ sym (then-refused _ _ _ (sym c.judge_row.ensures ∙ c.in_err-judge_row.was));
      row = λ q. fine-refused _ (sym q ∙ e);
    }

pub slice_bounds-judge-end : goal.slice_bounds-judge-end
slice_bounds-judge-end g c = let w = size-fine _ _ _ (row_fine _ _ _ (sym c.judge_row.ensures ∙ c.in_ok-judge_row.was)).1 in
    omega (arith, w.1, offset-suc c.args.table.now c.args.i, c.size_at.ensures.0)

pub returns : goal.returns
unfolding judge_row_by part
returns g c =
    let a = c.args in
    let b = bytes-at a.table.now a.samples.now a.i a.at c.size_at.result c.requires.2 c.size_at.ensures.0 in
    record {
      verdict = λ f h. rw (← c.judge_row.ensures, c.in_ok-judge_row.was, b, ← h _ _ c.judge.ensures) c.place_at.ensures;
      row = λ q. sym c.judge_row.ensures ∙ c.in_ok-judge_row.was;
    }
