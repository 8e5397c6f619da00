-- Past a limit, or without a zero byte, the length is enough; else the caption, with its payload where it was made.
use mathlib.Core.Path.{sym, ◌∙◌}
use Rattle.base.proofs.Choice.{true-false}
use Rattle.tx3g_convert.proofs.Judging.{made-sized, judged-made}
use Rattle.tx3g_convert.proofs.judge_made.Goals.{then-past_limits-via-then-past_limits, then-past_limits-via-else-past_limits+then-not-has_zero}
use Rattle.tx3g_convert.proofs.judge_made.Goals as goal

pub returns-then-past_limits : goal.returns-then-past_limits
returns-then-past_limits c = λ p old m r. c.judge_cue.ensures p (made-sized p old _ _ m _ r (λ h. elim c.then-past_limits.branch [
  | then-past_limits-via-then-past_limits w ↦ true-false _ (sym c.past_limits.ensures ∙ w.if-past_limits.true) h
  | then-past_limits-via-else-past_limits+then-not-has_zero w ↦ sym w.has_zero.ensures ∙ w.if-not-has_zero.true
]))

pub returns : goal.returns
returns c = λ p old m r.
    c.judge_content.ensures ∙ rw (c.ms_at-start.ensures, c.ms_at-end.ensures) (judged-made p old _ _ m _ c.args.state.cues _ _ _ (sym c.past_limits.ensures ∙ c.if-past_limits.false))
