-- Byte by byte: up to i all is in the class.
use Rattle.profile.specs.Spot.{Past}
use Rattle.profile.specs.Readings.{Reads}
use Rattle.profile_tags.specs.Terms.{Head, classing}
use Rattle.profile_tags.proofs.skip_class.Given as goal

abbrev pub invariant-loop-i : goal.invariant-loop-i
invariant-loop-i l = Reads Head l.s l.at (Past l.i) classing classing
