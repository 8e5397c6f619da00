use Rattle.wvtt_cues.specs.Terms.{ended}
use Rattle.base.proofs.Results.{passed_on}
use Rattle.wvtt_cues.proofs.Laws.{next-stop, next-found, next-other}
use Rattle.wvtt_cues.specs.Inner.{Inner}
use Rattle.wvtt_cues.specs.Cues.{cue_by}
use Rattle.boxes.proofs.Laws.{step-box, not-box}
use Rattle.boxes.specs.declared.Step.TheVariants.{Box}
use Rattle.boxes.specs.Boxes.{step_at}
use lib.ListN.{length}
use native.Mathlib.Omega.{arith}
use mathlib.Core.Path.{◌≡◌, refl, sym, ap, ◌∙◌}
use Rattle.wvtt_cues.proofs.next_cue.Goals as goal

pub returns-in_err-stopped_by : goal.returns-in_err-stopped_by
returns-in_err-stopped_by c = passed_on _ _ c.from_residual.ensures ∙ ap ended (sym c.in_err-stopped_by.was ∙ c.stopped_by.ensures) ∙ sym (next-stop _ _ _ _ (sym c.step_at-step.ensures) (not-box c.step_at-step.result c.in_default.not-Box)) ∙ c.loop-kind.invariant

pub returns-in_default : goal.returns-in_default
returns-in_default c = ap ended (sym c.in_ok-stopped_by.was ∙ c.stopped_by.ensures) ∙ sym (next-stop _ _ _ _ (sym c.step_at-step.ensures) (not-box c.step_at-step.result c.in_default.not-Box)) ∙ c.loop-kind.invariant

pub read_parts-requires : goal.read_parts-requires
read_parts-requires c =
    let got : step_at c.args.s.now c.loop-kind.at (length c.args.s.now) ≡ Box c.in-Box.kind c.in-Box.body c.in-Box.next = sym c.step_at-step.ensures ∙ c.in-Box.is in
    (step-box _ _ _ _ _ _ (got)).inside

pub returns-in_err-parts : goal.returns-in_err-parts
returns-in_err-parts c =
    let got : step_at c.args.s.now c.loop-kind.at (length c.args.s.now) ≡ Box c.in-Box.kind c.in-Box.body c.in-Box.next = sym c.step_at-step.ensures ∙ c.in-Box.is in
    passed_on _ _ c.from_residual-in_err-parts.ensures ∙ ap (λ (x : Inner). cue_by x c.in-Box.next) (sym c.in_err-parts.was ∙ c.read_parts.ensures) ∙ sym (next-found _ _ _ _ _ _ (got) c.if-kind-eq-VTTC.true) ∙ c.loop-kind.invariant

pub returns-then-kind-eq-VTTC : goal.returns-then-kind-eq-VTTC
returns-then-kind-eq-VTTC c =
    let got : step_at c.args.s.now c.loop-kind.at (length c.args.s.now) ≡ Box c.in-Box.kind c.in-Box.body c.in-Box.next = sym c.step_at-step.ensures ∙ c.in-Box.is in
    ap (λ (x : Inner). cue_by x c.in-Box.next) (sym c.in_ok-parts.was ∙ c.read_parts.ensures) ∙ sym (next-found _ _ _ _ _ _ (got) c.if-kind-eq-VTTC.true) ∙ c.loop-kind.invariant

pub loop-kind-smaller : goal.loop-kind-smaller
loop-kind-smaller c =
    let got : step_at c.args.s.now c.loop-kind.at (length c.args.s.now) ≡ Box c.in-Box.kind c.in-Box.body c.in-Box.next = sym c.step_at-step.ensures ∙ c.in-Box.is in
    let w = step-box _ _ _ _ _ _ (got) in omega arith

pub loop-kind-preserved : goal.loop-kind-preserved
loop-kind-preserved c =
    let got : step_at c.args.s.now c.loop-kind.at (length c.args.s.now) ≡ Box c.in-Box.kind c.in-Box.body c.in-Box.next = sym c.step_at-step.ensures ∙ c.in-Box.is in
    next-other _ _ _ _ _ _ (got) c.if-kind-eq-VTTC.false ∙ c.loop-kind.invariant

pub loop-kind-init : goal.loop-kind-init
loop-kind-init c = refl
