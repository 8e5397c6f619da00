-- The invariant: the end of the line from `at` on is that of the line from i on.
use Prim.Native.Nat.{◌≤◌}
use mathlib.Core.Path.{◌≡◌}
use lib.ListN.{length}
use Rattle.vtt_lines.specs.Cursor.{end_at}
use Rattle.vtt_lines.proofs.end_of.Given as goal

abbrev pub invariant-loop-i : goal.invariant-loop-i
invariant-loop-i l = (l.i ≤ length l.s) × (end_at l.s l.at ≡ end_at l.s l.i)
