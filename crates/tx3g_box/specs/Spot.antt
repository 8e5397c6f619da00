-- Where the eight bytes stand: at a place of the sample, or else in the entry; or the first fault and whose it is.
use Rattle.std.specs.Prelude.{ℕ, Option, Some, None, Result, Ok, Err}
use Rattle.verdict.specs.declared.Refusal.{Refusal}
use Rattle.tx3g_sample.specs.declared.Fault.{Fault}
use Rattle.tx3g_sample.specs.declared.Fault.TheVariants.{Entry as OfEntry, Sample as OfSample}

abbrev pub Spot : Type 0
Spot = Result (Option ℕ) Fault

pattern abbrev pub Sample : ℕ → Spot
Sample i = Ok (Some i)

pattern abbrev pub Entry : Spot
Entry = Ok None

pattern abbrev pub BadEntry : Refusal → Spot
BadEntry r = Err (OfEntry r)

pattern abbrev pub BadSample : Refusal → Spot
BadSample r = Err (OfSample r)
