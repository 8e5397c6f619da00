use Prim.Native.Nat.{ℕ, ◌+◌}
use native.Mathlib.Nat.{le_antisymm}
use mathlib.Core.Path.{refl, sym, ap, ◌∙◌, subst}
use Rattle.unpack_write.specs.Rows.{Short, row_size, size_to}
use Rattle.unpack_write.proofs.Laws.{size-more}
use native.Mathlib.Omega.{arith}
use Rattle.unpack_write.proofs.pool_size.Goals as goal

pub loop-i-init : goal.loop-i-init
unfolding size_to
loop-i-init c = (omega arith, refl, omega arith)

pub row_size-size-requires : goal.row_size-size-requires
row_size-size-requires c = subst Short (sym c.row_at.ensures) (c.requires.2 c.loop-i.i (omega arith))

pub loop-i-preserved : goal.loop-i-preserved
loop-i-preserved c = (omega arith, ap (λ (x : ℕ). x + c.row_size-size.result) c.loop-i.invariant.1 ∙ size-more _ _ _ (c.row_size-size.ensures.0 ∙ ap row_size c.row_at.ensures), omega arith)

pub returns : goal.returns
returns c = (c.loop-i.invariant.1 ∙ ap (size_to c.args.tab.now) (le_antisymm c.loop-i.invariant.0 (omega arith)), omega arith)
