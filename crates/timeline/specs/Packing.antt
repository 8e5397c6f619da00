-- Packing: cuts, the stretches between them, the packed track, and an honest house's track.
use Rattle.std.specs.Prelude.{ℕ, ◌-◌, ◌<◌, ◌≤◌, ◌≡◌, ◌↔◌, leb, ltb, eqb}
use mathlib.Core.List.{List, [], ◌∷◌, ◌++◌, Memᴰ}
use Rattle.base.specs.Choice.{both, pick}
use Rattle.timeline.specs.Cues.{Body, Cue, chosen, running_at}
use Rattle.timeline.specs.Tracks.{Sample}

-- every start and end tick
unfoldable pub edges : List Cue → List ℕ
edges [] = []
edges (c ∷ cs) = c.start ∷ c.end ∷ edges cs

-- packing cuts at 0, T and every start and end tick
unfoldable pub marks : List Cue → ℕ → List ℕ
unfolding edges
marks cues T = 0 ∷ T ∷ edges cues

-- each number is below all that follow it
unfoldable pub Rising : List ℕ → Type 0
Rising [] = Unit {0}
Rising (x ∷ xs) = ((y : ℕ) → Memᴰ y xs → x < y) × Rising xs

-- l has the numbers of m, each once, rising
pub record Sorts (l m : List ℕ) : Type 0 where
  pub rising : Rising l
  pub members : (t : ℕ) → Memᴰ t l ↔ Memᴰ t m

-- n among numbers that rise, once
unfoldable pub insert : ℕ → List ℕ → List ℕ
insert n [] = n ∷ []
insert n (x ∷ xs) = pick (ltb n x) (n ∷ x ∷ xs) (pick (eqb n x) (x ∷ xs) (x ∷ insert n xs))

-- the numbers of m, each once, rising: the one list that `Sorts` (`sorted-sorts`, `sorted-only`)
unfoldable pub sorted : List ℕ → List ℕ
unfolding insert
sorted [] = []
sorted (x ∷ xs) = insert x (sorted xs)

-- a sample for each stretch between neighbouring cuts; h says what the one from b to e holds
unfoldable pub stretches : (ℕ → ℕ → List Body) → List ℕ → List Sample
stretches h [] = []
stretches h (b ∷ []) = []
stretches h (b ∷ e ∷ r) = record { duration = e - b; held = h b e } ∷ stretches h (e ∷ r)

-- the cues with start ≤ b and e ≤ end, in list order
unfoldable pub held_over : List Cue → ℕ → ℕ → List Body
unfolding chosen
held_over cues b e = chosen (λ c. both (leb c.start b) (leb e c.end)) cues

-- the packed track
unfoldable pub packed : List Cue → ℕ → List Sample
unfolding stretches held_over sorted marks
packed cues T = stretches (held_over cues) (sorted (marks cues T))

-- an honest house's track: packing's cuts and whatever further ticks below T, each sample holding what runs at its begin
pub record Honest (cues : List Cue) (T : ℕ) (track : List Sample) : Type 0 where
  pub further : List ℕ
  pub below : (t : ℕ) → Memᴰ t further → t < T
  pub cut : track ≡ stretches (λ b e. running_at cues b) (sorted (marks cues T ++ further))
