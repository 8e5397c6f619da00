use Rattle.base.proofs.Results.{passed_on}
use mathlib.Core.Path.{sym, ◌∙◌}
use native.Mathlib.Omega.{arith}
use Rattle.unpack.specs.Rows.{rows_room}
use Rattle.unpack.proofs.Laws.{end-fine}
use Rattle.unpack.proofs.measure_rows.Goals as goal

pub overflow_cast-result : goal.overflow_cast-result
overflow_cast-result c = let w = end-fine _ _ _ _ (sym c.judge_end.ensures ∙ c.in_ok-judge_end.was) in omega (arith, c.ms_of.ensures.0, w.limits.time_most)

pub returns-in_err-judge_end : goal.returns-in_err-judge_end
unfolding rows_room
returns-in_err-judge_end c = passed_on _ _ c.from_residual.ensures ∙ rw (← c.judge_end.ensures, c.in_err-judge_end.was)

pub returns : goal.returns
unfolding rows_room
returns c = rw (c.pool_size.ensures.0, c.ms_of.ensures.0, ← c.judge_end.ensures, c.in_ok-judge_end.was)
