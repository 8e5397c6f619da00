use Rattle.wvtt_entry.proofs.Laws.{body-stop, body-found, body-other}
use Rattle.boxes.proofs.Laws.{step-box, not-box}
use Rattle.boxes.specs.Boxes.{step_at}
use Rattle.boxes.specs.declared.Step.TheVariants.{Box}
use lib.ListN.{length}
use mathlib.Core.Path.{◌≡◌, refl, sym, ◌∙◌}
use native.Mathlib.Omega.{arith}
use Rattle.wvtt_entry.proofs.find_part.Goals as goal

pub returns-in_default : goal.returns-in_default
returns-in_default c = body-stop _ _ _ _ _ (sym c.step_at-t.ensures) (not-box c.step_at-t.result c.in_default.not-Box) ∙ c.loop-kind.invariant

pub returns-then-kind-wanted : goal.returns-then-kind-wanted
returns-then-kind-wanted c =
    let got : step_at c.args.e.now c.loop-kind.at (length c.args.e.now) ≡ Box c.in-Box.kind c.in-Box.body c.in-Box.next = sym c.step_at-t.ensures ∙ c.in-Box.is in
    body-found _ _ _ _ _ _ _ (got) c.if-kind-wanted.true ∙ c.loop-kind.invariant

pub loop-kind-smaller : goal.loop-kind-smaller
loop-kind-smaller c =
    let got : step_at c.args.e.now c.loop-kind.at (length c.args.e.now) ≡ Box c.in-Box.kind c.in-Box.body c.in-Box.next = sym c.step_at-t.ensures ∙ c.in-Box.is in
    let w = step-box _ _ _ _ _ _ (got) in omega arith

pub loop-kind-preserved : goal.loop-kind-preserved
loop-kind-preserved c =
    let got : step_at c.args.e.now c.loop-kind.at (length c.args.e.now) ≡ Box c.in-Box.kind c.in-Box.body c.in-Box.next = sym c.step_at-t.ensures ∙ c.in-Box.is in
    body-other _ _ _ _ _ _ _ (got) c.if-kind-wanted.false ∙ c.loop-kind.invariant

pub loop-kind-init : goal.loop-kind-init
loop-kind-init c = refl
