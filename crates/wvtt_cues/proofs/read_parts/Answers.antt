use Rattle.wvtt_cues.proofs.Laws.{kept-start, kept-box, kept-refused, kept-whole}
use Rattle.wvtt_cues.specs.Cues.{nowhere}
use Rattle.boxes.proofs.Laws.{step-box, not-box}
use Rattle.boxes.specs.declared.Step.TheVariants.{Box}
use Rattle.boxes.specs.Boxes.{step_at}
use native.Mathlib.Omega.{arith}
use mathlib.Core.Path.{◌≡◌, sym, ◌∙◌}
use Rattle.base.proofs.Results.{passed_on}
use Rattle.wvtt_cues.proofs.read_parts.Goals as goal

pub loop-kind-init : goal.loop-kind-init
unfolding nowhere
loop-kind-init c = kept-start _ _ _

pub name_parts-requires : goal.name_parts-requires
name_parts-requires c = c.loop-kind.invariant.inside

pub returns-in_err-stopped_by : goal.returns-in_err-stopped_by
returns-in_err-stopped_by c = passed_on _ _ c.from_residual.ensures ∙ kept-refused _ _ _ _ _ _ _ (sym c.step_at-t.ensures) (not-box c.step_at-t.result c.in_default.not-Box) c.loop-kind.invariant (sym c.stopped_by.ensures ∙ c.in_err-stopped_by.was)

pub returns-in_default : goal.returns-in_default
returns-in_default c = kept-whole _ _ _ _ _ _ _ (sym c.step_at-t.ensures) (not-box c.step_at-t.result c.in_default.not-Box) c.loop-kind.invariant (sym c.stopped_by.ensures ∙ c.in_ok-stopped_by.was) c.name_parts.ensures

pub loop-kind-smaller : goal.loop-kind-smaller
loop-kind-smaller c =
    let got : step_at c.args.s.now c.loop-kind.at c.args.end ≡ Box c.in-Box.kind c.in-Box.body c.in-Box.next = sym c.step_at-t.ensures ∙ c.in-Box.is in
    let w = step-box _ _ _ _ _ _ (got) in omega arith

pub loop-kind-preserved : goal.loop-kind-preserved
loop-kind-preserved c =
    let got : step_at c.args.s.now c.loop-kind.at c.args.end ≡ Box c.in-Box.kind c.in-Box.body c.in-Box.next = sym c.step_at-t.ensures ∙ c.in-Box.is in
    let w = step-box _ _ _ _ _ _ (got) in
    rw c.place_box-places.ensures (kept-box _ _ _ _ _ _ _ _ (omega arith) (got) c.loop-kind.invariant)
