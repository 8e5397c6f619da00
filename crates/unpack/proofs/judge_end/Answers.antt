use mathlib.Core.Path.{sym, ◌∙◌}
use Rattle.base.proofs.Results.{passed_on}
use Rattle.verdict.specs.Judgement.{each}
use Rattle.verdict.proofs.Judgement.{then-refused}
use Rattle.unpack.specs.Rows.{end_of, row_times}
use Rattle.unpack.proofs.judge_end.Goals as goal

pub returns-in_err-judge_times : goal.returns-in_err-judge_times
unfolding end_of
returns-in_err-judge_times c = passed_on _ _ c.from_residual.ensures ∙ sym (then-refused (each (row_times c.args.scale c.args.tab.now) c.args.n) _ _ (sym c.judge_times.ensures ∙ c.in_err-judge_times.was))

pub returns-then-not-total_allowed : goal.returns-then-not-total_allowed
unfolding end_of
returns-then-not-total_allowed c = simp (c.refused.ensures, ← c.judge_times.ensures, c.in_ok-judge_times.was, ← c.total_allowed.ensures, c.if-not-total_allowed.true)

pub returns : goal.returns
unfolding end_of
returns c = simp (← c.judge_times.ensures, c.in_ok-judge_times.was, ← c.total_allowed.ensures, c.if-not-total_allowed.false)
