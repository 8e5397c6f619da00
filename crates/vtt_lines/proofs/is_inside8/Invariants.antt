-- The invariant: x is 0 exactly if the k bytes from i are past CR.
use Prim.Native.Nat.{◌≤◌}
use mathlib.Core.Path.{◌≡◌}
use lib.Dec.{eqb}
use Rattle.ascii.specs.Ascii.{all}
use Rattle.vtt_lines.specs.Cursor.{high}
use Rattle.vtt_lines.proofs.is_inside8.Given as goal

abbrev pub invariant-loop-k : goal.invariant-loop-k
invariant-loop-k l = (l.k ≤ 8) × (eqb l.x 0 ≡ all high l.s l.i l.k)
