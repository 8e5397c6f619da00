use native.Mathlib.Omega.{arith}
use mathlib.Core.Path.{◌≡◌}
use Rattle.profile.specs.Readings.{Around, texted}
use Rattle.profile.proofs.Readings.{r-here}
use Rattle.profile_judge.proofs.Laws.{is_plain, plain_more, plain-less, plain-and}
use Rattle.profile_judge.proofs.skip_few.Goals as goal
use Rattle.profile_judge.proofs.skip_few.Goals.{then-b-eq60-via-then-b-eq60, then-b-eq60-via-else-b-eq60+then-b-eq38}

pub loop-i-init : goal.loop-i-init
loop-i-init c = r-here Around _ _ texted (omega arith)

pub returns-then-b-eq60 : goal.returns-then-b-eq60
returns-then-b-eq60 c = (
  c.loop-i.invariant,
  omega arith,
  λ h. elim c.then-b-eq60.branch [
    | then-b-eq60-via-then-b-eq60 w ↦ plain-less c.args.s.now c.loop-i.i w.if-b-eq60.true (omega (arith, h))
    | then-b-eq60-via-else-b-eq60+then-b-eq38 w ↦ plain-and c.args.s.now c.loop-i.i w.if-b-eq38.true (omega (arith, h))
  ],
)

pub loop-i-preserved : goal.loop-i-preserved
loop-i-preserved c = plain_more _ _ _ (omega (arith, c.loop-i-test.true)) (is_plain _ (omega (arith, c.type_inv.s c.loop-i.i)) c.if-b-eq60.false c.if-b-eq38.false) c.loop-i.invariant

pub returns : goal.returns
returns c = let e : c.args.end ≡ c.loop-i.i = omega arith in (rw e c.loop-i.invariant, omega arith, λ h. absurd (omega (arith, h)))
