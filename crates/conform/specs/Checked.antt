-- The check passes; or the first fault and whose it is.
use Rattle.std.specs.Prelude.{Result, Ok, Err}
use Rattle.verdict.specs.declared.Refusal.{Refusal}
use Rattle.conform.specs.declared.Fault.{Fault}
use Rattle.conform.specs.declared.Fault.TheVariants.{List as OfList, Track as OfTrack}

abbrev pub Checked : Type 0
Checked = Result (Unit {0}) Fault

pattern abbrev pub Passed : Checked
Passed = Ok tt

pattern abbrev pub BadList : Refusal → Checked
BadList r = Err (OfList r)

pattern abbrev pub BadTrack : Refusal → Checked
BadTrack r = Err (OfTrack r)
