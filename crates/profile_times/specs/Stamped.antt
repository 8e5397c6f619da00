-- The place behind a timestamp, and its milliseconds; or the place that is amiss.
use Rattle.std.specs.Prelude.{ℕ, Result, Ok, Err}

abbrev pub Stamped : Type 0
Stamped = Result (ℕ × ℕ) ℕ

pattern abbrev pub Time : ℕ → ℕ → Stamped
Time i t = Ok (i, t)

pattern abbrev pub Amiss : ℕ → Stamped
Amiss i = Err i
