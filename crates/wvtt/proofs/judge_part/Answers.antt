-- `wvtt::judge_part` meets its contract: 3 comes before the body's faults.
use Rattle.wvtt.specs.Sample.{in_cue}
use Rattle.wvtt.proofs.judge_part.Goals as goal

pub returns-then-repeats : goal.returns-then-repeats
unfolding in_cue
returns-then-repeats c = λ before m. simp (← c.repeats.ensures before m, c.if-repeats.true, c.refused.ensures)

pub returns : goal.returns
unfolding in_cue
returns c = λ before m. simp (← c.repeats.ensures before m, c.if-repeats.false, c.judge_body.ensures)
