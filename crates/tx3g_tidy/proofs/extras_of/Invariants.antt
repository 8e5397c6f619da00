-- The invariant: n is the sum for the bytes before b.
use Prim.Native.Nat.{◌*◌, ◌≤◌}
use mathlib.Core.Path.{◌≡◌}
use lib.ListN.{take}
use Rattle.tx3g_tidy.specs.Escapes.{extras}
use Rattle.tx3g_tidy.proofs.extras_of.Given as goal

abbrev pub invariant-loop-b : goal.invariant-loop-b
invariant-loop-b l = (l.n ≤ 4 * l.b-index) × (l.n ≡ extras (take l.b-index l.text))
