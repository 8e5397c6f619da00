-- `tx3g_sample::judge_part` meets its contract.
use Rattle.tx3g_sample.specs.Sample.{in_sample}
use Rattle.tx3g_sample.proofs.judge_part.Goals as goal

pub returns-then-repeats : goal.returns-then-repeats
unfolding in_sample
returns-then-repeats c = λ before m. rw (← c.repeats.ensures before m, c.if-repeats.true) c.refused.ensures

pub returns-then-is_known : goal.returns-then-is_known
unfolding in_sample
returns-then-is_known c = λ before m. rw (← c.repeats.ensures before m, c.if-repeats.false, ← c.is_known.ensures, c.if-is_known.true) c.judge_body.ensures

pub returns-else-is_known : goal.returns-else-is_known
unfolding in_sample
returns-else-is_known c = λ before m. rw (← c.repeats.ensures before m, c.if-repeats.false, ← c.is_known.ensures, c.if-is_known.false)
