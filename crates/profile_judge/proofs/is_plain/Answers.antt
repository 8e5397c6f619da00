use native.Mathlib.Omega.{arith}
use mathlib.Core.Path.{◌≡◌}
use lib.Dec.{eqb}
use borrow.Author.Tests.{eqb-true}
use Rattle.base.proofs.Choice.{both_left, both_right}
use Rattle.ascii.proofs.Blocks.{or-none}
use Rattle.profile.specs.Readings.{Around, texted}
use Rattle.profile.proofs.Readings.{r-here}
use Rattle.profile_judge.proofs.Laws.{plain_more}
use Rattle.profile_judge.proofs.is_plain.Goals as goal

pub loop-i-init : goal.loop-i-init
loop-i-init c = λ e. r-here Around _ _ texted (omega arith)

pub loop-i-preserved : goal.loop-i-preserved
loop-i-preserved c = λ e. let k = rw (or-none c.loop-i.x c.mark_of-x.result) at e in plain_more _ _ _ (omega (arith, c.loop-i-test.true)) (c.mark_of-x.ensures (eqb-true _ 0 (both_right (eqb c.loop-i.x 0) (eqb c.mark_of-x.result 0) k))) (c.loop-i.invariant (both_left (eqb c.loop-i.x 0) (eqb c.mark_of-x.result 0) k))

pub returns : goal.returns
returns c = λ e. let n : c.loop-i.i ≡ c.args.end = omega arith in rw (← n) (c.loop-i.invariant e)
