-- A percentage in hundredths, if it is one.
use Rattle.std.specs.Prelude.{ℕ, Option, Some, None}

abbrev pub Hundredths : Type 0
Hundredths = Option ℕ

pattern abbrev pub Of : ℕ → Hundredths
Of n = Some n

pattern abbrev pub Wrong : Hundredths
Wrong = None
