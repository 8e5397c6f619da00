-- What a sample entry holds; or its fault.
use Rattle.std.specs.Prelude.{Result, Ok, Err}
use Rattle.verdict.specs.declared.Refusal.{Refusal}
use Rattle.wvtt_entry.specs.declared.Entry.{Entry}

abbrev pub Read : Type 0
Read = Result Entry Refusal

pattern abbrev pub Whole : Entry → Read
Whole x = Ok x

pattern abbrev pub Refused : Refusal → Read
Refused r = Err r
