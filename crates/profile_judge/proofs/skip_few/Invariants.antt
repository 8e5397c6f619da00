-- Byte by byte: up to i all is plain text.
use Rattle.profile.specs.Readings.{Reads, Around, texted}
use Rattle.profile.specs.Spot.{Past}
use Rattle.profile_judge.proofs.skip_few.Given as goal

abbrev pub invariant-loop-i : goal.invariant-loop-i
invariant-loop-i l = Reads Around l.s l.at (Past l.i) texted texted
