use mathlib.Core.Path.{refl, subst⁻¹, sym, ◌∙◌}
use mathlib.Core.Logic.{inl, inr}
use native.Mathlib.Omega.{arith}
use Rattle.base.proofs.Results.{passed_on}
use Rattle.profile.specs.Spot.{Spot, Past, Bad}
use Rattle.profile.specs.Readings.{Reads, Around, opened}
use Rattle.profile.proofs.Readings.{r-here, r-bad, on-end}
use Rattle.profile_tags.proofs.Heads.{named, head-class, head-note, head-end, head-early, head-blank, head_dead}
use Rattle.profile_tags.proofs.read_head.Goals as goal

pub loop-i-init : goal.loop-i-init
loop-i-init c = r-here Around _ _ (named _) c.requires

pub returns-in_err-i-in-46 : goal.returns-in_err-i-in-46
returns-in_err-i-in-46 c =
    subst⁻¹ (λ (r : Spot). Reads Around c.args.s.now c.args.at r (named c.args.x) (opened c.args.x)) (passed_on _ _ c.from_residual.ensures)
    (r-bad Around _ _ _ (named _) (named _) (opened _) (head-class _ _ _ _ c.loop-i-test.true c.loop-i.invariant (Bad _) c.in-46.is c.in_err-i-in-46.ensures))

pub loop-i-smaller : goal.loop-i-smaller
loop-i-smaller c = let k = c.in_ok-i-in-46.ensures in omega (arith, c.loop-i-test.true, k.bounds.0)

pub loop-i-preserved : goal.loop-i-preserved
loop-i-preserved c = head-class _ _ _ _ c.loop-i-test.true c.loop-i.invariant (Past _) c.in-46.is c.in_ok-i-in-46.ensures

pub returns-then-is_noted : goal.returns-then-is_noted
returns-then-is_noted c = head-early _ _ _ _ c.loop-i-test.true c.loop-i.invariant c.in-62.is (sym c.is_noted.ensures ∙ c.if-is_noted.true)

pub returns-else-is_noted : goal.returns-else-is_noted
returns-else-is_noted c = head-end _ _ _ _ c.loop-i-test.true c.loop-i.invariant c.in-62.is (sym c.is_noted.ensures ∙ c.if-is_noted.false)

pub returns-then-is_noted-2 : goal.returns-then-is_noted-2
returns-then-is_noted-2 c = head-note _ _ _ _ c.loop-i-test.true c.loop-i.invariant _ c.in-32.is (sym c.is_noted-in-32.ensures ∙ c.if-is_noted-2.true) c.read_note.ensures

pub returns-else-is_noted-2 : goal.returns-else-is_noted-2
returns-else-is_noted-2 c = head-blank _ _ _ _ c.loop-i-test.true c.loop-i.invariant c.in-32.is (sym c.is_noted-in-32.ensures ∙ c.if-is_noted-2.false)

pub returns-in_default : goal.returns-in_default
returns-in_default c = let n = c.in_default.in_default-own.rest in head_dead _ _ _ _ c.loop-i-test.true c.loop-i.invariant n.0.0.1 n.0.1 (λ e. n.1 (inl e)) (λ e. n.1 (inr e))

pub returns : goal.returns
returns c = on-end Around _ _ _ _ (named _) (opened _) c.loop-i.invariant c.loop-i-test.false (λ x. refl)
