-- Milliseconds and ticks. Document 01, 'Times'.
use Rattle.std.specs.Prelude.{ℕ, ◌+◌, ◌*◌, ◌/◌, ◌%◌, ◌≤◌, ◌<◌, ◌≡◌, Bool, eqb}
use Rattle.base.specs.Choice.{pick, both, within}

-- the tick of m milliseconds: m × scale / 1000, rounded down
unfoldable pub tick : ℕ → ℕ → ℕ
tick scale m = m * scale / 1000

-- a / n, rounded up: the quotient, and one more where something is left
unfoldable pub quotient_up : ℕ → ℕ → ℕ
quotient_up a n = a / n + pick (eqb (a % n) 0) 0 1

-- back from tick t: t × 1000 / scale, rounded up
unfoldable pub back : ℕ → ℕ → ℕ
unfolding quotient_up
back scale t = quotient_up (t * 1000) scale

-- a scale is 1 to 1,000,000
unfoldable pub scale_allowed : ℕ → Bool
unfolding within
scale_allowed scale = within 1 1000000 scale

-- the timeline T is 1 to 359,999,999 ms, and its tick lies in 1 to 4,294,967,295
unfoldable pub timeline_allowed : ℕ → ℕ → Bool
unfolding scale_allowed within tick
timeline_allowed scale T = both (scale_allowed scale) (both (within 1 359999999 T) (within 1 4294967295 (tick scale T)))

-- a timeline in its limits
pub record Limits (scale T : ℕ) : Type 0 where
  pub some_scale : 1 ≤ scale
  pub scale_most : scale ≤ 1000000
  pub some_time : 1 ≤ T
  pub time_most : T ≤ 359999999
  pub some_tick : 1 ≤ tick scale T
  pub tick_most : tick scale T ≤ 4294967295

-- at a scale of 1,000 or less a tick comes back as itself; this and the next are proved in proofs/Laws.antt
abbrev pub TickBack : Type 0
TickBack = (scale t : ℕ) → 0 < scale → scale ≤ 1000 → tick scale (back scale t) ≡ t

-- at a scale of 1,000 or more a time comes back as itself
abbrev pub BackTick : Type 0
BackTick = (scale m : ℕ) → 1000 ≤ scale → back scale (tick scale m) ≡ m
