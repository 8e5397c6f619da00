use mathlib.Core.Path.{◌≡◌, sym, ◌∙◌}
use native.Mathlib.Omega.{arith}
use lib.ListN.{length}
use Rattle.boxes.specs.declared.Step.TheVariants.{Box}
use Rattle.boxes.specs.Boxes.{step_at}
use Rattle.boxes.proofs.Laws.{step-box, not-box}
use Rattle.tx3g_stock.proofs.Laws.{counted_none, counted-fits, counted-more, counted-all}
use Rattle.tx3g_stock.proofs.count_boxes.Goals as goal

pub loop-kind-init : goal.loop-kind-init
loop-kind-init c = counted_none _ _ c.requires.1 _ c.text_end-at.ensures.0

pub returns-in_default : goal.returns-in_default
returns-in_default c = counted-all _ _ _ _ c.loop-kind.invariant c.step_at-t.result (sym c.step_at-t.ensures) (not-box c.step_at-t.result c.in_default.not-Box)

pub count_box-counts-requires : goal.count_box-counts-requires
count_box-counts-requires c = counted-fits _ _ _ _ c.loop-kind.invariant (omega arith)

pub loop-kind-smaller : goal.loop-kind-smaller
loop-kind-smaller c =
    let got : step_at c.args.s.now c.loop-kind.at (length c.args.s.now) ≡ Box c.in-Box.kind c.in-Box.body c.in-Box.next = sym c.step_at-t.ensures ∙ c.in-Box.is in
    let w = step-box _ _ _ _ _ _ (got) in omega arith

pub loop-kind-preserved : goal.loop-kind-preserved
loop-kind-preserved c =
    let got : step_at c.args.s.now c.loop-kind.at (length c.args.s.now) ≡ Box c.in-Box.kind c.in-Box.body c.in-Box.next = sym c.step_at-t.ensures ∙ c.in-Box.is in
    counted-more _ _ _ _ c.loop-kind.invariant _ _ _ _ (got) c.count_box-counts.ensures
