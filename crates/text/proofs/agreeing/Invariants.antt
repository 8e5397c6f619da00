-- The invariant: i, and what is in common from there on, make the whole.
use Prim.Native.Nat.{◌+◌, ◌≤◌}
use mathlib.Core.Path.{◌≡◌}
use lib.ListN.{length, drop}
use Rattle.utf8.specs.Strings.{agree}
use Rattle.text.proofs.agreeing.Given as goal

abbrev pub invariant-loop-i : goal.invariant-loop-i
invariant-loop-i l = (l.i ≤ length l.s) × (l.i + agree (drop l.i l.p) (drop l.i l.s) ≡ agree l.p l.s)
