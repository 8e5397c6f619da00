-- The list that was written, and what of the stock it does not show; or the first fault and whose it is.
use Rattle.std.specs.Prelude.{ℕ, Result, Ok, Err}
use Rattle.verdict.specs.declared.Refusal.{Refusal}
use Rattle.tx3g_convert.specs.declared.CueList.{CueList}
use Rattle.tx3g_stock.specs.declared.Counts.{Counts}
use Rattle.tx3g_convert.specs.declared.Fault.{Fault}
use Rattle.tx3g_convert.specs.declared.Fault.TheVariants.{Entry as OfEntry, Track as OfTrack, Room as OfRoom}

abbrev pub Converted : Type 0
Converted = Result CueList Fault

abbrev pub Done : ℕ → ℕ → ℕ → ℕ → Counts → Converted
Done n r p t c = Ok (record { cues = n; records = r; pool = p; t = t; dropped = c })

pattern abbrev pub BadEntry : Refusal → Converted
BadEntry r = Err (OfEntry r)

pattern abbrev pub BadTrack : Refusal → Converted
BadTrack r = Err (OfTrack r)

pattern abbrev pub NoRoom : Refusal → Converted
NoRoom r = Err (OfRoom r)
