-- At its usual place, or else from i on. The invariant: `-->` stands in the line if it stands there from i on.
use Prim.Native.Nat.{◌≤◌}
use mathlib.Core.Path.{◌≡◌}
use lib.ListN.{length, drop}
use Rattle.vtt_lines.specs.Lines.{holds_arrow}
use Rattle.vtt_lines.proofs.holds_arrow.Given as goal

abbrev pub invariant-loop-i : goal.invariant-loop-i
invariant-loop-i l = (l.i ≤ length l.line) × (holds_arrow (drop l.i l.line) ≡ holds_arrow l.line)
