use mathlib.Core.Path.{refl, subst⁻¹}
use mathlib.Core.Bool.{false}
use mathlib.Core.Logic.{inl, inr}
use native.Mathlib.Omega.{arith}
use Rattle.base.proofs.Results.{passed_on}
use Rattle.profile.specs.Spot.{Spot, Past, Bad}
use Rattle.profile.specs.Readings.{Reads}
use Rattle.profile.proofs.Readings.{r-here, r-bad, on-end}
use Rattle.profile_tags.specs.Terms.{Head, noting, ended}
use Rattle.profile_tags.proofs.Heads.{note_blank, note_more, note_escape, note_end, note-early, note-break}
use Rattle.profile_tags.proofs.read_note.Goals as goal

pub loop-i-init : goal.loop-i-init
loop-i-init c = r-here Head _ _ (noting false) c.requires

pub loop-i-preserved-in-32 : goal.loop-i-preserved-in-32
loop-i-preserved-in-32 c = note_blank _ _ _ _ c.loop-i-test.true c.loop-i.invariant c.in-32.is

pub returns-in_err-i-in-38 : goal.returns-in_err-i-in-38
returns-in_err-i-in-38 c =
    subst⁻¹ (λ (r : Spot). Reads Head c.args.s.now c.args.at r (noting false) ended) (passed_on _ _ c.from_residual.ensures)
    (r-bad Head _ _ _ (noting false) (noting _) ended (note_escape _ _ _ _ c.loop-i-test.true c.loop-i.invariant (Bad _) c.in-38.is c.in_err-i-in-38.ensures))

pub loop-i-smaller-in-38 : goal.loop-i-smaller-in-38
loop-i-smaller-in-38 c = let k = c.in_ok-i-in-38.ensures in omega (arith, c.loop-i-test.true, k.bounds.0)

pub loop-i-preserved-in-38 : goal.loop-i-preserved-in-38
loop-i-preserved-in-38 c = note_escape _ _ _ _ c.loop-i-test.true c.loop-i.invariant (Past _) c.in-38.is c.in_ok-i-in-38.ensures

pub returns-then-said : goal.returns-then-said
returns-then-said c = note_end _ _ _ _ c.loop-i-test.true c.loop-i.invariant c.in-62.is c.if-said.true

pub returns-else-said : goal.returns-else-said
returns-else-said c = note-early _ _ _ _ c.loop-i-test.true c.loop-i.invariant c.in-62.is c.if-said.false

pub returns-in-10 : goal.returns-in-10
returns-in-10 c = note-break _ _ _ _ c.loop-i-test.true c.loop-i.invariant c.in-10.is

pub loop-i-preserved : goal.loop-i-preserved
loop-i-preserved c =
    let n = c.in_default.in_default-own.rest in
    note_more _ _ _ _ c.loop-i-test.true c.loop-i.invariant (omega (arith, c.type_inv.s c.loop-i.i)) (λ e. n.0.0.0.1 (inl e)) (λ e. n.0.0.0.1 (inr e)) n.0.0.1 n.0.1 (λ e. n.1 (inl e)) (λ e. n.1 (inr e))

pub returns : goal.returns
returns c = on-end Head _ _ _ _ (noting _) ended c.loop-i.invariant c.loop-i-test.false (λ x. refl)
