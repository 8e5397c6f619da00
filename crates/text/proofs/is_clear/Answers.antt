use mathlib.Core.Path.{sym, ◌∙◌}
use native.Mathlib.Omega.{arith}
use Rattle.text.proofs.Marks.{none_pass, clear-fails, clear-more, clear-last}
use Rattle.text.proofs.is_clear.Goals as goal

pub loop-i-init : goal.loop-i-init
loop-i-init c = (omega arith, none_pass _)

pub returns-then-not-is_unmarked8 : goal.returns-then-not-is_unmarked8
returns-then-not-is_unmarked8 c = clear-fails _ c.loop-i.i 8 _ (omega (arith, c.loop-i-test.true)) (sym c.is_unmarked8.ensures ∙ c.if-not-is_unmarked8.true)

pub loop-i-preserved : goal.loop-i-preserved
loop-i-preserved c =
    (omega (arith, c.loop-i-test.true), clear-more _ _ 8 c.loop-i.invariant.1 (sym c.is_unmarked8.ensures ∙ c.if-not-is_unmarked8.false))

pub returns : goal.returns
returns c = c.is_unmarked8-2.ensures ∙ clear-last _ _ 8 _ (omega arith) c.loop-i-test.false c.loop-i.invariant.1
