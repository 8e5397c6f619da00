-- Class by class: up to i all is read, and another class may follow.
use Prim.Native.Nat.{◌-◌}
use lib.ListN.{length}
use Rattle.profile.specs.Spot.{Past}
use Rattle.profile.specs.Readings.{Reads, Around}
use Rattle.profile_tags.proofs.Heads.{named}
use Rattle.profile_tags.proofs.read_head.Given as goal

abbrev pub invariant-loop-i : goal.invariant-loop-i
invariant-loop-i l = Reads Around l.s l.at (Past l.i) (named l.x) (named l.x)

abbrev pub decreases-loop-i : goal.decreases-loop-i
decreases-loop-i l = length l.s - l.i
