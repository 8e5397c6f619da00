-- The limits, then the times.
use mathlib.Core.Path.{sym, ◌∙◌}
use Rattle.tx3g_convert.proofs.Judging.{cue-past, times-bad, times-right}
use Rattle.tx3g_convert.proofs.judge_cue.Goals as goal

pub returns-then-past_limits : goal.returns-then-past_limits
returns-then-past_limits c = λ p z. c.refused.ensures ∙ cue-past _ _ _ _ _ _ p z (sym c.past_limits.ensures ∙ c.if-past_limits.true)

pub returns-then-bad_times : goal.returns-then-bad_times
returns-then-bad_times c = λ p z. c.refused-then-bad_times.ensures ∙ times-bad _ _ _ _ _ _ p z (sym c.past_limits.ensures ∙ c.if-past_limits.false) _ _ c.ms_at-start.ensures c.ms_at-end.ensures _ c.bad_times.ensures c.if-bad_times.true

pub returns : goal.returns
returns c = λ p z. times-right _ _ _ _ _ _ p z (sym c.past_limits.ensures ∙ c.if-past_limits.false) _ _ c.ms_at-start.ensures c.ms_at-end.ensures _ c.bad_times.ensures c.if-bad_times.false
