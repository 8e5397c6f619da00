-- Where a body begins, if the box is there; or the refusal of a header before it.
use Rattle.std.specs.Prelude.{ℕ, Option, Some, None, Result, Ok, Err}
use Rattle.verdict.specs.declared.Refusal.{Refusal}

abbrev pub Body : Type 0
Body = Result (Option ℕ) Refusal

pattern abbrev pub At : ℕ → Body
At b = Ok (Some b)

pattern abbrev pub Nowhere : Body
Nowhere = Ok None

pattern abbrev pub Refused : Refusal → Body
Refused r = Err r
