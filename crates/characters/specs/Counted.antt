-- A text's characters; or its first bad byte.
use Rattle.std.specs.Prelude.{ℕ, Result, Ok, Err}

abbrev pub Counted : Type 0
Counted = Result ℕ ℕ

pattern abbrev pub Characters : ℕ → Counted
Characters n = Ok n

pattern abbrev pub Bad : ℕ → Counted
Bad q = Err q
