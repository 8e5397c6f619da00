-- The invariant: none of the bytes from `from` to i is escaped.
use Prim.Native.Nat.{◌≤◌}
use mathlib.Core.Path.{◌≡◌}
use Rattle.boxes.specs.Boxes.{part}
use Rattle.tx3g_tidy.specs.Escapes.{extras}
use Rattle.tx3g_tidy.proofs.plain_end.Given as goal

abbrev pub invariant-loop-i : goal.invariant-loop-i
invariant-loop-i l = (l.from ≤ l.i) × (extras (part l.text l.from l.i) ≡ 0)
