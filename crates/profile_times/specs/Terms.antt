-- Terms of contracts: what the answer of a timestamp's reader says of the judge.
use Rattle.std.specs.Prelude.{ℕ, suc, ◌+◌, ◌<◌, ◌≤◌, List, map, get_or}
use Rattle.profile.specs.declared.Tag.{Tag}
use Rattle.profile.specs.Spot.{Past, Bad}
use Rattle.profile.specs.Machine.{Place, clock, at, Text, Lt}
use Rattle.profile.specs.Readings.{Reads}
use Rattle.profile_times.specs.Stamped.{Stamped, Time, Amiss}

-- behind the `<` at p, where a time must be at least low: the time v up to n; or the answer of the whole is q
abbrev pub TimeIs : List ℕ → ℕ → ℕ → Stamped → Type 0
TimeIs s p low (Time n v) = (v < 360000000) × Reads (List Tag) s p (Past n) (λ st. at Lt st low) (λ st. at Text st (suc v))
TimeIs s p low (Amiss q) = Reads (List Tag) s p (Bad q) (λ st. at Lt st low) (λ st. at Lt st low)

-- the time v stands from p on, if it is not too low
abbrev pub Told : List ℕ → ℕ → ℕ → Type 0
Told s p v = (low : ℕ) → low ≤ v → TimeIs s p low (Time (p + 13) v)

-- the bounds of the bytes, from the clock's places
abbrev pub lows : List ℕ
lows = map (λ (p : Place). p.0) clock

abbrev pub highs : List ℕ
highs = map (λ (p : Place). p.1) clock

-- the first n bytes from p on are within them
abbrev pub Fits : List ℕ → ℕ → ℕ → Type 0
Fits s p n = (k : ℕ) → k < n → (get_or lows k 0 ≤ get_or s (p + k) 0) × (get_or s (p + k) 0 ≤ get_or highs k 0)
