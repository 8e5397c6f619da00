-- A sample's characters; or the first fault and whose it is.
use Rattle.std.specs.Prelude.{ℕ, Result, Ok, Err}
use Rattle.verdict.specs.declared.Refusal.{Refusal}
use Rattle.tx3g_sample.specs.declared.Fault.{Fault}
use Rattle.tx3g_sample.specs.declared.Fault.TheVariants.{Entry as OfEntry, Sample as OfSample}

abbrev pub Reading : Type 0
Reading = Result ℕ Fault

pattern abbrev pub Good : ℕ → Reading
Good n = Ok n

pattern abbrev pub BadEntry : Refusal → Reading
BadEntry r = Err (OfEntry r)

pattern abbrev pub BadSample : Refusal → Reading
BadSample r = Err (OfSample r)
