-- How many samples were written, and the bytes of table and samples; or the first fault.
use Rattle.std.specs.Prelude.{ℕ, Result, Ok, Err}
use Rattle.verdict.specs.declared.Refusal.{Refusal}
use Rattle.table.specs.declared.Sizes.{Sizes}

abbrev pub Packed : Type 0
Packed = Result Sizes Refusal

abbrev pub Done : ℕ → ℕ → ℕ → Packed
Done n t b = Ok (record { samples = n; table = t; bytes = b })

pattern abbrev pub Refused : Refusal → Packed
Refused r = Err r
