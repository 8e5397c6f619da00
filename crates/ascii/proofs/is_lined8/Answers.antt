use mathlib.Core.Path.{◌≡◌, refl, sym, ◌∙◌}
use native.Mathlib.Omega.{arith}
use native.Mathlib.Numerals.{add-one}
use Rattle.base.specs.Iter.{iter}
use Rattle.ascii.specs.Ascii.{lined, all_pairs}
use Rattle.ascii.proofs.Blocks.{or-none, mark-none, all-lined}
use Rattle.ascii.proofs.is_lined8.Goals as goal

pub returns-then-is_unmarked8 : goal.returns-then-is_unmarked8
returns-then-is_unmarked8 c = all-lined _ _ _ (sym c.is_unmarked8.ensures ∙ c.if-is_unmarked8.true)

pub loop-k-init : goal.loop-k-init
unfolding all_pairs iter
loop-k-init c = refl

pub loop-k-preserved : goal.loop-k-preserved
unfolding all_pairs lined iter
loop-k-preserved c = rw (add-one, all_pairs, iter, or-none, c.pair_mark_of-x.ensures, mark-none, c.loop-k.invariant)

pub returns : goal.returns
returns c = let e : c.loop-k.k ≡ 8 = omega arith in rw (← e) c.loop-k.invariant
