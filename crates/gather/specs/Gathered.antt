-- How many cues a track has, and the sum of its durations; or the first fault of a sample.
use Rattle.std.specs.Prelude.{ℕ, Result, Ok, Err}
use Rattle.verdict.specs.declared.Refusal.{Refusal}

abbrev pub Gathered : Type 0
Gathered = Result (ℕ × ℕ) Refusal

pattern abbrev pub All : ℕ → ℕ → Gathered
All n t = Ok (n, t)

pattern abbrev pub Fault : Refusal → Gathered
Fault r = Err r
