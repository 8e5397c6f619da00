-- A part is read up to a place, and the least time that may come next; or where it is wrong.
use Rattle.std.specs.Prelude.{ℕ, Result, Ok, Err}

abbrev pub Part : Type 0
Part = Result (ℕ × ℕ) ℕ

pattern abbrev pub On : ℕ → ℕ → Part
On i low = Ok (i, low)

pattern abbrev pub Wrong : ℕ → Part
Wrong i = Err i
