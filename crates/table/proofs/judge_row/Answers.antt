use Rattle.table.specs.Table.{judge_row}
use borrow.Author.Tests.{ne_eqb}
use Rattle.table.proofs.judge_row.Goals as goal

pub returns-then-duration_at-eq0 : goal.returns-then-duration_at-eq0
unfolding judge_row
returns-then-duration_at-eq0 c = simp (← c.duration_at.ensures.0, c.if-duration_at-eq0.true, c.refused.ensures)

pub returns : goal.returns
unfolding judge_row
returns c = simp (← c.duration_at.ensures.0, ne_eqb _ _ c.if-duration_at-eq0.false, c.judge_size.ensures)
