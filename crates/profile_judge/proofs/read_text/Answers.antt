use Rattle.profile_judge.specs.Part.{Part, On, Wrong}
use mathlib.Core.Path.{subst⁻¹}
use Rattle.base.proofs.Results.{passed_on}
use native.Mathlib.Omega.{arith}
use mathlib.Core.List.{List}
use Rattle.profile.specs.declared.Tag.{Tag}
use Rattle.profile_judge.specs.Terms.{in_text, TextIs, Stops}
use Rattle.profile.proofs.Readings.{r-then}
use Rattle.profile_judge.proofs.Laws.{plain-text, text-then}
use Rattle.profile_judge.proofs.read_text.Goals as goal

pub skip_plain-i-requires : goal.skip_plain-i-requires
skip_plain-i-requires c = c.requires

pub loop-i-init : goal.loop-i-init
loop-i-init c = (plain-text _ _ _ _ c.skip_plain-i.ensures, c.skip_plain-i.ensures.1)

pub is_mark-requires : goal.is_mark-requires
is_mark-requires c = (c.loop-i.invariant.0.bounds.1, c.loop-i.invariant.1)

pub read_mark-requires : goal.read_mark-requires
read_mark-requires c = rw c.loop-i-test.true at c.is_mark.ensures

pub returns-in_err-next : goal.returns-in_err-next
returns-in_err-next c =
    let a = c.args in
    subst⁻¹ (λ (r : Part). TextIs a.s.now a.at a.low r × Stops a.s.now r) (passed_on _ _ c.from_residual.ensures) (text-then _ _ _ _ _ c.loop-i.invariant.0 (Wrong _) c.in_err-next.ensures.0, tt)

pub skip_plain-i-requires-in-loop-i : goal.skip_plain-i-requires-in-loop-i
skip_plain-i-requires-in-loop-i c = c.in_ok-next.ensures.0.bounds.1

pub loop-i-smaller : goal.loop-i-smaller
loop-i-smaller c = let k = c.in_ok-next.ensures in omega (arith, k.0.bounds.1, k.1, c.skip_plain-i-in-loop-i.ensures.0.bounds.0, c.skip_plain-i-in-loop-i.ensures.0.bounds.1)

pub loop-i-preserved : goal.loop-i-preserved
loop-i-preserved c = let k = c.in_ok-next.ensures in (r-then (List Tag) _ _ _ _ (in_text _) (in_text _) (in_text _) (text-then _ _ _ _ _ c.loop-i.invariant.0 (On _ _) k.0) (plain-text _ _ _ _ c.skip_plain-i-in-loop-i.ensures), c.skip_plain-i-in-loop-i.ensures.1)

pub returns : goal.returns
returns c = (c.loop-i.invariant.0, rw c.loop-i-test.false at c.is_mark.ensures)
