-- Terms of contracts: where a run of bytes ends.
use Rattle.std.specs.Prelude.{ℕ, ◌+◌, Bool, List, length, drop}
use Rattle.timestamps.specs.Timestamps.{front}

-- the place behind the run that begins at i
abbrev pub runs_to : (ℕ → Bool) → List ℕ → ℕ → ℕ
runs_to p s i = i + length (front p (drop i s))
