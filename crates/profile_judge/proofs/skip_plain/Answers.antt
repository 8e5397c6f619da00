-- A few bytes, eights, and the rest.
use Rattle.profile.specs.Readings.{Around, texted}
use Rattle.profile.proofs.Readings.{r-then}
use Rattle.profile_judge.proofs.skip_plain.Goals as goal

pub returns-then-i-at : goal.returns-then-i-at
returns-then-i-at c = (c.skip_few-i.ensures.0, λ h. c.skip_few-i.ensures.2 c.if-i-at.true)

pub returns : goal.returns
returns c = (r-then Around _ _ _ _ texted texted texted (r-then Around _ _ _ _ texted texted texted c.skip_few-i.ensures.0 c.skip_eights-j.ensures) c.skip_few-2.ensures.0, c.skip_few-2.ensures.2)
