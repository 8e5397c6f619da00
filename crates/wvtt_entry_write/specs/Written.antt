-- How many bytes were written; or why none.
use Rattle.std.specs.Prelude.{ℕ, Result, Ok, Err}
use Rattle.verdict.specs.declared.Refusal.{Refusal}

abbrev pub Written : Type 0
Written = Result ℕ Refusal

pattern abbrev pub Done : ℕ → Written
Done n = Ok n

pattern abbrev pub Refused : Refusal → Written
Refused r = Err r
