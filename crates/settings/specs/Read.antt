-- What the settings say; or the first fault.
use Rattle.std.specs.Prelude.{Result, Ok, Err}
use Rattle.verdict.specs.declared.Refusal.{Refusal}
use Rattle.settings.specs.declared.Reading.{Reading}

abbrev pub Read : Type 0
Read = Result Reading Refusal

pattern abbrev pub Done : Reading → Read
Done x = Ok x

pattern abbrev pub Refused : Refusal → Read
Refused r = Err r
