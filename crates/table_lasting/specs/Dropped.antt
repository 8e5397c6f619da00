-- How many samples are left, and the bytes of table and samples; or the first fault.
use Rattle.std.specs.Prelude.{ℕ, Result, Ok, Err}
use Rattle.verdict.specs.declared.Refusal.{Refusal}
use Rattle.table.specs.declared.Sizes.{Sizes}

abbrev pub Dropped : Type 0
Dropped = Result Sizes Refusal

abbrev pub Done : ℕ → ℕ → ℕ → Dropped
Done n t b = Ok (record { samples = n; table = t; bytes = b })

pattern abbrev pub Refused : Refusal → Dropped
Refused r = Err r
