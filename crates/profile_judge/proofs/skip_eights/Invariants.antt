-- Eight by eight: up to i all is plain text.
use Prim.Native.Nat.{◌-◌}
use lib.ListN.{length}
use Rattle.profile.specs.Readings.{Reads, Around, texted}
use Rattle.profile.specs.Spot.{Past}
use Rattle.profile_judge.proofs.skip_eights.Given as goal

abbrev pub invariant-loop-i : goal.invariant-loop-i
invariant-loop-i l = Reads Around l.s l.at (Past l.i) texted texted

abbrev pub decreases-loop-i : goal.decreases-loop-i
decreases-loop-i l = length l.s - l.i
