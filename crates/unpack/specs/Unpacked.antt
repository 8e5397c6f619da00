-- The list that was written; or the first fault.
use Rattle.std.specs.Prelude.{ℕ, Result, Ok, Err}
use Rattle.verdict.specs.declared.Refusal.{Refusal}
use Rattle.unpack.specs.declared.CueList.{CueList}

abbrev pub Unpacked : Type 0
Unpacked = Result CueList Refusal

abbrev pub Done : ℕ → ℕ → ℕ → Unpacked
Done n p t = Ok (record { records = n; pool = p; t = t })

pattern abbrev pub Refused : Refusal → Unpacked
Refused r = Err r
