-- The state after the bytes; or the byte after which no continuation is right.
use Rattle.std.specs.Prelude.{ℕ, Result, Ok, Err}

abbrev pub Passed : Type 0
Passed = Result ℕ ℕ

pattern abbrev pub To : ℕ → Passed
To n = Ok n

pattern abbrev pub Bad : ℕ → Passed
Bad q = Err q
