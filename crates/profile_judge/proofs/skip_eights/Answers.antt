use native.Mathlib.Omega.{arith}
use Rattle.profile.specs.Readings.{Around, texted}
use Rattle.profile.proofs.Readings.{r-here}
use Rattle.profile.proofs.Readings.{r-then}
use Rattle.profile_judge.proofs.skip_eights.Goals as goal

pub loop-i-init : goal.loop-i-init
loop-i-init c = r-here Around _ _ texted c.requires

pub overflow_sub-s : goal.overflow_sub-s
overflow_sub-s c = omega (arith, c.loop-i.invariant.bounds.1)

pub is_plain-requires : goal.is_plain-requires
is_plain-requires c = omega (arith, c.loop-i.invariant.bounds.1)

pub returns-then-not-is_plain : goal.returns-then-not-is_plain
returns-then-not-is_plain c = c.loop-i.invariant

pub loop-i-smaller : goal.loop-i-smaller
loop-i-smaller c = omega (arith, c.loop-i-test.true)

pub loop-i-preserved : goal.loop-i-preserved
loop-i-preserved c = r-then Around _ _ _ _ texted texted texted c.loop-i.invariant (c.is_plain.ensures c.if-not-is_plain.false)

pub returns : goal.returns
returns c = c.loop-i.invariant
