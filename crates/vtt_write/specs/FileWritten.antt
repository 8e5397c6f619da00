-- The file's length; or the first fault and whose it is.
use Rattle.std.specs.Prelude.{ℕ, Result, Ok, Err}
use Rattle.verdict.specs.declared.Refusal.{Refusal}
use Rattle.vtt_write.specs.declared.Fault.{Fault}
use Rattle.vtt_write.specs.declared.Fault.TheVariants.{Configuration as OfConfiguration, List as OfList, Room as OfRoom}

abbrev pub FileWritten : Type 0
FileWritten = Result ℕ Fault

pattern abbrev pub Done : ℕ → FileWritten
Done n = Ok n

pattern abbrev pub BadConfiguration : Refusal → FileWritten
BadConfiguration r = Err (OfConfiguration r)

pattern abbrev pub BadList : Refusal → FileWritten
BadList r = Err (OfList r)

pattern abbrev pub NoRoom : Refusal → FileWritten
NoRoom r = Err (OfRoom r)
