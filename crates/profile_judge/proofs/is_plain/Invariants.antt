-- The invariant: if x is 0, all before i is plain text.
use mathlib.Core.Path.{◌≡◌}
use mathlib.Core.Bool.{true}
use lib.Dec.{eqb}
use Rattle.profile.specs.Readings.{Reads, Around, texted}
use Rattle.profile.specs.Spot.{Past}
use Rattle.profile_judge.proofs.is_plain.Given as goal

abbrev pub invariant-loop-i : goal.invariant-loop-i
invariant-loop-i l = eqb l.x 0 ≡ true → Reads Around l.s l.at (Past l.i) texted texted
