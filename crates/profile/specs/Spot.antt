-- Read up to a place; or bad at one.
use Rattle.std.specs.Prelude.{ℕ, Result, Ok, Err}

abbrev pub Spot : Type 0
Spot = Result ℕ ℕ

pattern abbrev pub Past : ℕ → Spot
Past i = Ok i

pattern abbrev pub Bad : ℕ → Spot
Bad i = Err i
