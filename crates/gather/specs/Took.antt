-- After a cue: how many are known, and the least row that may come next in the sample; or the number of a fault.
use Rattle.std.specs.Prelude.{ℕ, Result, Ok, Err}

abbrev pub Took : Type 0
Took = Result (ℕ × ℕ) ℕ

pattern abbrev pub Goes : ℕ → ℕ → Took
Goes n k = Ok (n, k)

pattern abbrev pub Stops : ℕ → Took
Stops m = Err m
