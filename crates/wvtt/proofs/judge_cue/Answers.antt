use Rattle.base.proofs.Results.{passed_on}
use Rattle.wvtt.specs.Sample.{in_cue, end_cue, judge_cue}
use Rattle.boxes.proofs.Judging.{judged-box, judged-refused, judged-stop}
use Rattle.boxes.proofs.Laws.{step-box, not-box}
use Rattle.boxes.specs.declared.Step.TheVariants.{Box}
use Rattle.boxes.specs.Boxes.{step_at, among}
use native.Mathlib.Omega.{arith}
use mathlib.Core.List.{[]}
use mathlib.Core.Path.{◌≡◌, refl, sym, ◌∙◌}
use Rattle.wvtt.proofs.judge_cue.Goals as goal

pub loop-kind-init : goal.loop-kind-init
unfolding judge_cue among
loop-kind-init c = ([], record { of_id = refl; of_identifier = refl; of_time = refl; of_settings = refl; of_payload = refl }, refl)

pub returns-in_default : goal.returns-in_default
returns-in_default c = let i = c.loop-kind.invariant in
    c.end_cue.ensures
    ∙ rw i.1.of_payload (judged-stop (in_cue _) (end_cue _) _ _ _ i.0 _ (sym c.step_at-t.ensures) (not-box c.step_at-t.result c.in_default.not-Box))
    ∙ i.2

pub judge_part-requires : goal.judge_part-requires
judge_part-requires c =
    let got : step_at c.args.s.now c.loop-kind.at c.args.end ≡ Box c.in-Box.kind c.in-Box.body c.in-Box.next = sym c.step_at-t.ensures ∙ c.in-Box.is in
    let w = step-box _ _ _ _ _ _ (got) in omega arith

pub returns-in_err-judge_part : goal.returns-in_err-judge_part
returns-in_err-judge_part c =
    let got : step_at c.args.s.now c.loop-kind.at c.args.end ≡ Box c.in-Box.kind c.in-Box.body c.in-Box.next = sym c.step_at-t.ensures ∙ c.in-Box.is in
    let i = c.loop-kind.invariant in
    passed_on _ _ c.from_residual.ensures ∙ sym c.in_err-judge_part.was ∙ judged-refused (in_cue _) (end_cue _) _ _ _ i.0 _ _ _ _ _ (got) (c.judge_part.ensures i.0 i.1) c.in_err-judge_part.was ∙ i.2

pub loop-kind-smaller : goal.loop-kind-smaller
loop-kind-smaller c =
    let got : step_at c.args.s.now c.loop-kind.at c.args.end ≡ Box c.in-Box.kind c.in-Box.body c.in-Box.next = sym c.step_at-t.ensures ∙ c.in-Box.is in
    let w = step-box _ _ _ _ _ _ (got) in omega arith

pub loop-kind-preserved : goal.loop-kind-preserved
loop-kind-preserved c =
    let got : step_at c.args.s.now c.loop-kind.at c.args.end ≡ Box c.in-Box.kind c.in-Box.body c.in-Box.next = sym c.step_at-t.ensures ∙ c.in-Box.is in
    let i = c.loop-kind.invariant in
    (_, c.with_kind-seen.ensures i.0 i.1, judged-box (in_cue _) (end_cue _) _ _ _ i.0 _ _ _ (got) (sym (c.judge_part.ensures i.0 i.1) ∙ c.in_ok-judge_part.was) ∙ i.2)
