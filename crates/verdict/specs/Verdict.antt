-- What a judgement says: nothing is wrong; or the first fault.
use Rattle.std.specs.Prelude.{Result, Ok, Err}
use Rattle.verdict.specs.declared.Refusal.{Refusal}

abbrev pub Verdict : Type 0
Verdict = Result (Unit {0}) Refusal

pattern abbrev pub Fine : Verdict
Fine = Ok tt

pattern abbrev pub Refused : Refusal → Verdict
Refused r = Err r
