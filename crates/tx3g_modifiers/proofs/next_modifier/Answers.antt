use Rattle.base.proofs.Results.{passed_on}
use Rattle.tx3g_modifiers.proofs.Laws.{whole-end, next-stop, next-found, next-other}
use Rattle.boxes.proofs.Laws.{step-box, not-box}
use Rattle.boxes.specs.Boxes.{step_at}
use Rattle.boxes.specs.declared.Step.TheVariants.{Box}
use lib.ListN.{length}
use mathlib.Core.Path.{◌≡◌, refl, sym, ◌∙◌}
use native.Mathlib.Omega.{arith}
use Rattle.tx3g_modifiers.proofs.next_modifier.Goals as goal

pub returns-in_err-stopped_by : goal.returns-in_err-stopped_by
returns-in_err-stopped_by c =
    let stops = next-stop _ _ _ _ (sym c.step_at-t.ensures) (not-box c.step_at-t.result c.in_default.not-Box) in
    passed_on _ _ c.from_residual.ensures ∙ sym (stops ∙ rw (← c.stopped_by.ensures, c.in_err-stopped_by.was)) ∙ c.loop-kind.invariant

pub returns-in_default : goal.returns-in_default
returns-in_default c =
    let stops = next-stop _ _ _ _ (sym c.step_at-t.ensures) (not-box c.step_at-t.result c.in_default.not-Box) in
    sym (stops ∙ rw (← c.stopped_by.ensures, c.in_ok-stopped_by.was)) ∙ c.loop-kind.invariant

pub is_whole-requires : goal.is_whole-requires
is_whole-requires c =
    let got : step_at c.args.s.now c.loop-kind.at (length c.args.s.now) ≡ Box c.in-Box.kind c.in-Box.body c.in-Box.next = sym c.step_at-t.ensures ∙ c.in-Box.is in
    let w = step-box _ _ _ _ _ _ (got) in (w.order, w.inside)

pub read_modifier-modifier-requires : goal.read_modifier-modifier-requires
read_modifier-modifier-requires c =
    let got : step_at c.args.s.now c.loop-kind.at (length c.args.s.now) ≡ Box c.in-Box.kind c.in-Box.body c.in-Box.next = sym c.step_at-t.ensures ∙ c.in-Box.is in
    rw (whole-end _ _ _ _ (sym c.is_whole.ensures ∙ c.if-is_whole.true)) (step-box _ _ _ _ _ _ (got)).inside

pub returns-then-is_whole : goal.returns-then-is_whole
returns-then-is_whole c =
    let got : step_at c.args.s.now c.loop-kind.at (length c.args.s.now) ≡ Box c.in-Box.kind c.in-Box.body c.in-Box.next = sym c.step_at-t.ensures ∙ c.in-Box.is in
    rw c.read_modifier-modifier.ensures (sym (next-found _ _ _ _ _ _ (got) (sym c.is_whole.ensures ∙ c.if-is_whole.true)) ∙ c.loop-kind.invariant)

pub loop-kind-smaller : goal.loop-kind-smaller
loop-kind-smaller c =
    let got : step_at c.args.s.now c.loop-kind.at (length c.args.s.now) ≡ Box c.in-Box.kind c.in-Box.body c.in-Box.next = sym c.step_at-t.ensures ∙ c.in-Box.is in
    let w = step-box _ _ _ _ _ _ (got) in omega arith

pub loop-kind-preserved : goal.loop-kind-preserved
loop-kind-preserved c =
    let got : step_at c.args.s.now c.loop-kind.at (length c.args.s.now) ≡ Box c.in-Box.kind c.in-Box.body c.in-Box.next = sym c.step_at-t.ensures ∙ c.in-Box.is in
    next-other _ _ _ _ _ _ (got) (sym c.is_whole.ensures ∙ c.if-is_whole.false) ∙ c.loop-kind.invariant

pub loop-kind-init : goal.loop-kind-init
loop-kind-init c = refl
