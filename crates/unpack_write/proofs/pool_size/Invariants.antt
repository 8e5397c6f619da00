use Prim.Native.Nat.{◌*◌, ◌≤◌}
use mathlib.Core.Path.{◌≡◌}
use Rattle.unpack_write.specs.Rows.{size_to}
use Rattle.unpack_write.proofs.pool_size.Given as goal

abbrev pub invariant-loop-i : goal.invariant-loop-i
invariant-loop-i l = (l.i ≤ l.n) × (l.size ≡ size_to l.tab l.i) × (l.size ≤ l.i * 4605)
