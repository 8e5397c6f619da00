-- The next modifier with the place after it, or none; or the refusal of a header.
use Rattle.std.specs.Prelude.{ℕ, Option, Some, None, Result, Ok, Err}
use Rattle.tx3g_modifiers.specs.declared.Modifier.{Modifier}
use Rattle.verdict.specs.declared.Refusal.{Refusal}

abbrev pub Held : Type 0
Held = Result (Option (Modifier × ℕ)) Refusal

pattern abbrev pub One : Modifier → ℕ → Held
One m n = Ok (Some (m, n))

pattern abbrev pub End : Held
End = Ok None

pattern abbrev pub Refused : Refusal → Held
Refused r = Err r
