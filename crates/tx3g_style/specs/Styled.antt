-- The style in force; or the first fault and whose it is.
use Rattle.std.specs.Prelude.{Result, Ok, Err}
use Rattle.verdict.specs.declared.Refusal.{Refusal}
use Rattle.tx3g_style.specs.declared.Style.{Style}
use Rattle.tx3g_sample.specs.declared.Fault.{Fault}
use Rattle.tx3g_sample.specs.declared.Fault.TheVariants.{Entry as OfEntry, Sample as OfSample}

abbrev pub Styled : Type 0
Styled = Result Style Fault

pattern abbrev pub Found : Style → Styled
Found x = Ok x

pattern abbrev pub BadEntry : Refusal → Styled
BadEntry r = Err (OfEntry r)

pattern abbrev pub BadSample : Refusal → Styled
BadSample r = Err (OfSample r)
