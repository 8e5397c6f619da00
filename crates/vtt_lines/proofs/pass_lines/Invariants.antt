-- The invariant: `-->` seen before, or in a line of the block that is left, makes the whole answer.
use Prim.Native.Nat.{◌-◌}
use mathlib.Core.Path.{◌≡◌}
use lib.ListN.{length, drop}
use Rattle.base.specs.Choice.{any_of}
use Rattle.vtt_lines.specs.Lines.{lines_of, filled, some_arrow}
use Rattle.vtt_lines.proofs.Blocks.{Passing}
use Rattle.vtt_lines.proofs.pass_lines.Given as goal

abbrev pub invariant-loop-l : goal.invariant-loop-l
invariant-loop-l l = Passing l.s l.at l.line l.place l.number × (any_of l.arrow (some_arrow (filled (lines_of (drop l.place l.s)))) ≡ some_arrow (filled (lines_of (drop l.at l.s))))

abbrev pub decreases-loop-l : goal.decreases-loop-l
decreases-loop-l l = length l.s - l.place
