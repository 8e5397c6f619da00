-- The list that was written; or the first fault.
use Rattle.std.specs.Prelude.{ℕ, Result, Ok, Err}
use Rattle.verdict.specs.declared.Refusal.{Refusal}
use Rattle.vtt_read.specs.declared.CueList.{CueList}

abbrev pub FileRead : Type 0
FileRead = Result CueList Refusal

abbrev pub Done : ℕ → ℕ → ℕ → FileRead
Done n a b = Ok (record { cues = n; records = a; pool = b })

pattern abbrev pub Refused : Refusal → FileRead
Refused r = Err r
