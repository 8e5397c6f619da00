use Rattle.base.proofs.Results.{passed_on}
use Rattle.tx3g_entry.proofs.Laws.{then-nothing}
use Rattle.tx3g_entry.specs.Entry.{in_entry, nothing_more, entry_boxes}
use Rattle.boxes.proofs.Judging.{judged-box, judged-refused, judged-stop}
use Rattle.boxes.proofs.Laws.{step-box, not-box}
use Rattle.boxes.specs.Boxes.{step_at, stopped_by, among}
use Rattle.boxes.specs.declared.Step.TheVariants.{Box}
use lib.ListN.{length}
use mathlib.Core.List.{[], ◌∷◌}
use mathlib.Core.Path.{◌≡◌, refl, sym, ◌∙◌}
use native.Mathlib.Omega.{arith}
use Rattle.tx3g_entry.proofs.judge_boxes.Goals as goal

pub loop-kind-init : goal.loop-kind-init
unfolding among entry_boxes
loop-kind-init c = ([], refl, refl)

pub returns-in_default : goal.returns-in_default
returns-in_default c = let i = c.loop-kind.invariant in
    c.stopped_by.ensures
    ∙ then-nothing (stopped_by c.step_at-t.result)
    ∙ judged-stop (in_entry _) nothing_more _ _ _ i.0 _ (sym c.step_at-t.ensures) (not-box c.step_at-t.result c.in_default.not-Box)
    ∙ i.2

pub judge_box-requires : goal.judge_box-requires
judge_box-requires c =
    let got : step_at c.args.e.now c.loop-kind.at (length c.args.e.now) ≡ Box c.in-Box.kind c.in-Box.body c.in-Box.next = sym c.step_at-t.ensures ∙ c.in-Box.is in
    let w = step-box _ _ _ _ _ _ (got) in omega arith

pub returns-in_err-judge_box : goal.returns-in_err-judge_box
returns-in_err-judge_box c =
    let got : step_at c.args.e.now c.loop-kind.at (length c.args.e.now) ≡ Box c.in-Box.kind c.in-Box.body c.in-Box.next = sym c.step_at-t.ensures ∙ c.in-Box.is in
    let i = c.loop-kind.invariant in
    passed_on _ _ c.from_residual.ensures ∙ sym c.in_err-judge_box.was ∙ judged-refused (in_entry _) nothing_more _ _ _ i.0 _ _ _ _ _ (got) (c.judge_box.ensures i.0 i.1) c.in_err-judge_box.was ∙ i.2

pub loop-kind-smaller : goal.loop-kind-smaller
loop-kind-smaller c =
    let got : step_at c.args.e.now c.loop-kind.at (length c.args.e.now) ≡ Box c.in-Box.kind c.in-Box.body c.in-Box.next = sym c.step_at-t.ensures ∙ c.in-Box.is in
    let w = step-box _ _ _ _ _ _ (got) in omega arith

pub loop-kind-preserved : goal.loop-kind-preserved
unfolding among
loop-kind-preserved c =
    let got : step_at c.args.e.now c.loop-kind.at (length c.args.e.now) ≡ Box c.in-Box.kind c.in-Box.body c.in-Box.next = sym c.step_at-t.ensures ∙ c.in-Box.is in
    let i = c.loop-kind.invariant in
    (c.in-Box.kind ∷ i.0, rw (← i.1) c.mark_kind-seen.ensures, judged-box (in_entry _) nothing_more _ _ _ i.0 _ _ _ (got) (sym (c.judge_box.ensures i.0 i.1) ∙ c.in_ok-judge_box.was) ∙ i.2)
