-- The milliseconds, if it is a timestamp.
use Rattle.std.specs.Prelude.{ℕ, Option, Some, None}

abbrev pub Timestamp : Type 0
Timestamp = Option ℕ

pattern abbrev pub Ms : ℕ → Timestamp
Ms n = Some n

pattern abbrev pub Malformed : Timestamp
Malformed = None
