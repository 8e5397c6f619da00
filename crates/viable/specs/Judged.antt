-- What is said of a text: it keeps its rule; or it is bad, and at which byte.
use Rattle.std.specs.Prelude.{ℕ, Result, Ok, Err}

abbrev pub Judged : Type 0
Judged = Result (Unit {0}) ℕ

pattern abbrev pub Right : Judged
Right = Ok tt

pattern abbrev pub Bad : ℕ → Judged
Bad q = Err q
