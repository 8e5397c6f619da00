-- The next cue with the place after it, or none; or the refusal of a header.
use Rattle.std.specs.Prelude.{ℕ, Option, Some, None, Result, Ok, Err}
use Rattle.verdict.specs.declared.Refusal.{Refusal}
use Rattle.wvtt_cues.specs.declared.Parts.{Parts}

abbrev pub Held : Type 0
Held = Result (Option (Parts × ℕ)) Refusal

pattern abbrev pub Cue : Parts → ℕ → Held
Cue x n = Ok (Some (x, n))

pattern abbrev pub End : Held
End = Ok None

pattern abbrev pub Refused : Refusal → Held
Refused r = Err r
