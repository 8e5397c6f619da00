-- Each empty line leaves the blocks as they are.
use Prim.Native.Nat.{◌-◌}
use lib.ListN.{length}
use Rattle.vtt_lines.specs.Cursor.{EmptyTo}
use Rattle.vtt_lines.proofs.pass_empty.Given as goal

abbrev pub invariant-loop-place : goal.invariant-loop-place
invariant-loop-place l = EmptyTo l.s l.at l.line l.place l.number

abbrev pub decreases-loop-place : goal.decreases-loop-place
decreases-loop-place l = length l.s - l.place
