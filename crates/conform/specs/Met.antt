-- A cue of the list is met in the sample, and the place after it; or they differ.
use Rattle.std.specs.Prelude.{ℕ, Option, Some, None}

abbrev pub Met : Type 0
Met = Option ℕ

pattern abbrev pub On : ℕ → Met
On n = Some n

pattern abbrev pub Differs : Met
Differs = None
