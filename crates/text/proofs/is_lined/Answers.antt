use Prim.Native.Nat.{◌+◌}
use mathlib.Core.Path.{refl, sym, ◌∙◌}
use native.Mathlib.Omega.{arith}
use Rattle.base.proofs.Choice.{true-false}
use Rattle.text.proofs.Marks.{none_pass, lined-more, lined-last, lined-keeps, dashless-keeps}
use Rattle.text.proofs.is_lined.Goals as goal
use Rattle.text.proofs.is_lined.Goals.{else-loop-i-test, then-loop-i-test+else-not-is_lined8+else-last-i-gt8}

pub returns-then-n-lt8 : goal.returns-then-n-lt8
returns-then-n-lt8 c h = dashless-keeps _ (λ j. (c.type_inv.s j).fits) (sym c.is_unmarked.ensures ∙ h)

pub returns-then-is_unmarked : goal.returns-then-is_unmarked
returns-then-is_unmarked c h = dashless-keeps _ (λ j. (c.type_inv.s j).fits) (sym c.is_unmarked-then-n-gt255.ensures ∙ c.if-is_unmarked.true)

pub loop-i-init : goal.loop-i-init
loop-i-init c = (omega arith, none_pass _)

pub returns-then-not-is_lined8 : goal.returns-then-not-is_lined8
returns-then-not-is_lined8 c h = true-false _ h refl

pub loop-i-preserved : goal.loop-i-preserved
loop-i-preserved c =
    (omega (arith, c.loop-i-test.true), lined-more _ _ 8 c.loop-i.invariant.1 (sym c.is_lined8.ensures ∙ c.if-not-is_lined8.false))

pub returns : goal.returns
returns c h =
    let last = sym c.is_unmarked8.ensures ∙ h in
    elim c.loop-i-test.branch [
      | else-loop-i-test w ↦ lined-keeps _ (λ j. (c.type_inv.s j).fits) (lined-last _ c.loop-i.i 8 _ (omega arith) (omega (arith, w.loop-i-test.false)) c.loop-i.invariant.1 last)
      | then-loop-i-test+else-not-is_lined8+else-last-i-gt8 w ↦
          lined-keeps _ (λ j. (c.type_inv.s j).fits)
          (lined-last _ (c.loop-i.i + 8) 8 _ (omega arith) (omega arith) (lined-more _ _ 8 c.loop-i.invariant.1 (sym w.is_lined8.ensures ∙ w.if-not-is_lined8.false)) last)
    ]
