-- A text's characters; or its fault.
use Rattle.std.specs.Prelude.{ℕ, Result, Ok, Err}
use Rattle.verdict.specs.declared.Refusal.{Refusal}

abbrev pub Text : Type 0
Text = Result ℕ Refusal

pattern abbrev pub Whole : ℕ → Text
Whole n = Ok n

pattern abbrev pub Bad : Refusal → Text
Bad r = Err r
