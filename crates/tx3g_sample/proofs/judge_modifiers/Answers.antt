use Rattle.base.proofs.Results.{passed_on}
use Rattle.tx3g_sample.specs.Sample.{in_sample, modifiers_of}
use Rattle.tx3g_entry.proofs.Laws.{then-nothing}
use Rattle.tx3g_entry.specs.Entry.{nothing_more}
use Rattle.boxes.proofs.Judging.{judged-box, judged-refused, judged-stop}
use Rattle.boxes.proofs.Laws.{step-box, not-box}
use Rattle.boxes.specs.Boxes.{step_at, stopped_by, among}
use Rattle.boxes.specs.declared.Step.TheVariants.{Box}
use lib.ListN.{length}
use mathlib.Core.List.{[]}
use mathlib.Core.Path.{◌≡◌, refl, sym, ◌∙◌}
use native.Mathlib.Omega.{arith}
use Rattle.tx3g_sample.proofs.judge_modifiers.Goals as goal

pub loop-kind-init : goal.loop-kind-init
unfolding among modifiers_of
loop-kind-init c = ([], record { of_styles = refl; of_colour = refl; of_karaoke = refl; of_delay = refl; of_box = refl; of_wrap = refl }, refl)

pub returns-in_default : goal.returns-in_default
returns-in_default c = let i = c.loop-kind.invariant in
    c.stopped_by.ensures
    ∙ then-nothing (stopped_by c.step_at-t.result)
    ∙ judged-stop (in_sample _ _ _) nothing_more _ _ _ i.0 _ (sym c.step_at-t.ensures) (not-box c.step_at-t.result c.in_default.not-Box)
    ∙ i.2

pub judge_part-requires : goal.judge_part-requires
judge_part-requires c =
    let got : step_at c.args.s.now c.loop-kind.at (length c.args.s.now) ≡ Box c.in-Box.kind c.in-Box.body c.in-Box.next = sym c.step_at-t.ensures ∙ c.in-Box.is in
    let w = step-box _ _ _ _ _ _ (got) in (c.requires, w.order, w.inside)

pub returns-in_err-judge_part : goal.returns-in_err-judge_part
returns-in_err-judge_part c =
    let got : step_at c.args.s.now c.loop-kind.at (length c.args.s.now) ≡ Box c.in-Box.kind c.in-Box.body c.in-Box.next = sym c.step_at-t.ensures ∙ c.in-Box.is in
    let i = c.loop-kind.invariant in
    passed_on _ _ c.from_residual.ensures ∙ sym c.in_err-judge_part.was ∙ judged-refused (in_sample _ _ _) nothing_more _ _ _ i.0 _ _ _ _ _ (got) (c.judge_part.ensures i.0 i.1) c.in_err-judge_part.was ∙ i.2

pub loop-kind-smaller : goal.loop-kind-smaller
loop-kind-smaller c =
    let got : step_at c.args.s.now c.loop-kind.at (length c.args.s.now) ≡ Box c.in-Box.kind c.in-Box.body c.in-Box.next = sym c.step_at-t.ensures ∙ c.in-Box.is in
    let w = step-box _ _ _ _ _ _ (got) in omega arith

pub loop-kind-preserved : goal.loop-kind-preserved
loop-kind-preserved c =
    let got : step_at c.args.s.now c.loop-kind.at (length c.args.s.now) ≡ Box c.in-Box.kind c.in-Box.body c.in-Box.next = sym c.step_at-t.ensures ∙ c.in-Box.is in
    let i = c.loop-kind.invariant in
    (_, c.with_kind-seen.ensures i.0 i.1, judged-box (in_sample _ _ _) nothing_more _ _ _ i.0 _ _ _ (got) (sym (c.judge_part.ensures i.0 i.1) ∙ c.in_ok-judge_part.was) ∙ i.2)
