-- The invariant: the text of the lines passed, with what the block that is left adds to it, is the block's text.
use Prim.Native.Nat.{◌-◌}
use lib.ListN.{length, drop}
use Rattle.vtt_lines.specs.Lines.{lines_of, joined, filled}
use Rattle.vtt_lines.proofs.Blocks.{Passing}
use Rattle.vtt_lines.proofs.Scanning.{Scanning}
use Rattle.vtt_lines.proofs.scan.Given as goal

abbrev pub invariant-loop-l : goal.invariant-loop-l
invariant-loop-l l = Passing l.s l.at l.line l.place l.number × Scanning (joined (filled (lines_of (drop l.at l.s)))) l.s l.at l.size l.end l.plain l.place (filled (lines_of (drop l.place l.s)))

abbrev pub decreases-loop-l : goal.decreases-loop-l
decreases-loop-l l = length l.s - l.place
