use mathlib.Core.Path.{◌≡◌, refl, sym, ◌∙◌}
use native.Mathlib.Omega.{arith}
use Rattle.boxes.specs.Boxes.{step_at}
use Rattle.boxes.specs.declared.Step.TheVariants.{Box}
use Rattle.boxes.proofs.Laws.{step-box, not-box, passed-box, passed-stop}
use Rattle.boxes.proofs.pass_boxes.Goals as goal

pub returns-in_default : goal.returns-in_default
returns-in_default c = c.stopped_by.ensures ∙ passed-stop _ _ _ _ (sym c.step_at-t.ensures) (not-box c.step_at-t.result c.in_default.not-Box) ∙ c.loop-next.invariant

pub loop-next-smaller : goal.loop-next-smaller
loop-next-smaller c = let w =
    let got : step_at c.args.s.now c.loop-next.at c.args.end ≡ Box c.in-Box.kind c.in-Box.body c.in-Box.next = sym c.step_at-t.ensures ∙ c.in-Box.is in
    step-box _ _ _ _ _ _ (got) in omega arith

pub loop-next-preserved : goal.loop-next-preserved
loop-next-preserved c =
    let got : step_at c.args.s.now c.loop-next.at c.args.end ≡ Box c.in-Box.kind c.in-Box.body c.in-Box.next = sym c.step_at-t.ensures ∙ c.in-Box.is in
    passed-box _ _ _ _ _ _ (got) ∙ c.loop-next.invariant

pub loop-next-init : goal.loop-next-init
loop-next-init c = refl
