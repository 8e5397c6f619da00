use Rattle.base.proofs.Results.{passed_on}
use mathlib.Core.Path.{sym, ◌∙◌}
use native.Mathlib.Omega.{arith}
use Rattle.table.specs.Table.{row_count}
use Rattle.table.proofs.Judging.{judged-ends}
use Rattle.table_lasting.proofs.Turns.{counted_none, counted-kept, counted-dropped, counted-stops, counted-left, counted-all}
use Rattle.table_lasting.proofs.measure_rows.Goals.{then-duration_at-ne0, else-duration_at-ne0}
use Rattle.table_lasting.proofs.measure_rows.Goals as goal

pub judge_size-requires : goal.judge_size-requires
judge_size-requires c = let w = c.loop-i.invariant.judged in (omega arith, w.begins, w.inside)

pub returns-in_err-judge_size : goal.returns-in_err-judge_size
unfolding row_count
returns-in_err-judge_size c = passed_on _ _ c.from_residual.ensures ∙ counted-stops _ _ _ _ _ _ c.loop-i.invariant c.requires (omega arith) _ (sym c.judge_size.ensures ∙ c.in_err-judge_size.was)

pub overflow_add-kept : goal.overflow_add-kept
overflow_add-kept c = omega (arith, c.loop-i.invariant.fewer)

pub overflow_add-bytes : goal.overflow_add-bytes
overflow_add-bytes c = omega (arith, c.loop-i.invariant.less, judged-ends _ _ _ _ _ c.loop-i.invariant.judged _ c.size_at-size.ensures.0 (sym c.judge_size.ensures ∙ c.in_ok-judge_size.was))

pub overflow_add-at : goal.overflow_add-at
overflow_add-at c = omega (arith, judged-ends _ _ _ _ _ c.loop-i.invariant.judged _ c.size_at-size.ensures.0 (sym c.judge_size.ensures ∙ c.in_ok-judge_size.was))

pub loop-i-preserved : goal.loop-i-preserved
unfolding row_count
loop-i-preserved c = let w = c.loop-i.invariant in
    let f = sym c.judge_size.ensures ∙ c.in_ok-judge_size.was in
    let d = c.duration_at.ensures.0 in
    elim c.if-duration_at-ne0.branch [
      | then-duration_at-ne0 k ↦ rw (k.kept-is, k.bytes-is) (counted-kept _ _ _ _ _ _ w (omega arith) f _ c.size_at-size.ensures.0 (λ z. k.if-duration_at-ne0.true (d ∙ z)))
      | else-duration_at-ne0 k ↦ rw (k.kept-is, k.bytes-is) (counted-dropped _ _ _ _ _ _ w (omega arith) f _ c.size_at-size.ensures.0 (sym d ∙ k.if-duration_at-ne0.false))
    ]

pub overflow_mul-result : goal.overflow_mul-result
unfolding row_count
overflow_mul-result c = omega (arith, c.loop-i.invariant.fewer, c.loop-i.invariant.judged.most)

pub returns-in_err-judge_left : goal.returns-in_err-judge_left
unfolding row_count
returns-in_err-judge_left c = passed_on _ _ c.from_residual-in_err-judge_left.ensures ∙ counted-left _ _ _ _ _ _ c.loop-i.invariant c.requires (omega arith) _ (sym c.judge_left.ensures ∙ c.in_err-judge_left.was)

pub returns : goal.returns
unfolding row_count
returns c = counted-all _ _ _ _ _ _ c.loop-i.invariant c.requires (omega arith) (sym c.judge_left.ensures ∙ c.in_ok-judge_left.was)

pub loop-i-init : goal.loop-i-init
loop-i-init c = counted_none _ _
