-- Byte by byte: up to i it is an annotation so far.
use Prim.Native.Nat.{◌-◌}
use mathlib.Core.Bool.{false}
use lib.ListN.{length}
use Rattle.profile.specs.Spot.{Past}
use Rattle.profile.specs.Readings.{Reads}
use Rattle.profile_tags.specs.Terms.{Head, noting}
use Rattle.profile_tags.proofs.read_note.Given as goal

abbrev pub invariant-loop-i : goal.invariant-loop-i
invariant-loop-i l = Reads Head l.s l.at (Past l.i) (noting false) (noting l.said)

abbrev pub decreases-loop-i : goal.decreases-loop-i
decreases-loop-i l = length l.s - l.i
