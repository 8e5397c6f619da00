-- Terms of the contracts of private functions and of the search that packing calls: the window of records that can run at a begin, and what is found by it.
use Rattle.std.specs.Prelude.{ℕ, ◌≤◌, ◌<◌, ◌≡◌, List}
use Rattle.timeline.specs.Nearest.{nearest}
use Rattle.cuts.specs.Cuts.{start_tick, end_tick, ticks_to, cues_size}
use Rattle.cuts.specs.declared.Stretch.{Stretch}

-- the records before `first` have ended by b
abbrev pub Ended : ℕ → List ℕ → ℕ → ℕ → Type 0
Ended scale recs first b = (j : ℕ) → j < first → end_tick scale recs j ≤ b

-- the records before `last` have started by b
abbrev pub Started : ℕ → List ℕ → ℕ → ℕ → Type 0
Started scale recs last b = (j : ℕ) → j < last → start_tick scale recs j ≤ b

-- the records from `last` on start after b
abbrev pub Later : ℕ → List ℕ → ℕ → ℕ → ℕ → Type 0
Later scale recs n last b = (j : ℕ) → last ≤ j → j < n → b < start_tick scale recs j

-- a record that runs at b stands from `first` to `last`
pub record Window (scale : ℕ) (recs : List ℕ) (n first last b : ℕ) : Type 0 where
  pub first_most : first ≤ n
  pub last_most : last ≤ n
  pub ended : Ended scale recs first b
  pub started : Started scale recs last b
  pub later : Later scale recs n last b

-- the stretch from b: its window, the next cut, and the bytes of its cues
pub record From (scale T : ℕ) (recs : List ℕ) (n b : ℕ) (s : Stretch) : Type 0 where
  pub window : Window scale recs n s.first s.last b
  pub next_is : s.next ≡ nearest T b (ticks_to scale recs n)
  pub cues_is : s.cues ≡ cues_size scale recs b n
  pub cues_most : s.cues ≤ 268435456
