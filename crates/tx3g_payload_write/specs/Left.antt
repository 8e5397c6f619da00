-- What is left of a character, if any is.
use Rattle.std.specs.Prelude.{ℕ, Option, Some, None}

abbrev pub Left : Type 0
Left = Option ℕ

pattern abbrev pub Stays : ℕ → Left
Stays n = Some n

pattern abbrev pub Gone : Left
Gone = None
