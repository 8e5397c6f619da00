-- Cues on a timeline of ticks, and what runs at a tick.
use Rattle.std.specs.Prelude.{ℕ, ◌<◌, ◌≤◌, ◌≡◌, ◌≢◌, Bool, true, false, leb, ltb, eqb}
use Rattle.std.proofs.Math.Option.{Option, none, some}
use mathlib.Core.List.{List, [], ◌∷◌, Memᴰ}
use Rattle.base.specs.Choice.{both, keep, same_list}

-- what a sample can hold of a cue: its ID, if it has one, and the bytes of three texts
pub record Body : Type 0 where
  pub id : Option ℕ
  pub identifier : List ℕ
  pub settings : List ℕ
  pub payload : List ℕ

-- start and end are ticks
pub record Cue : Type 0 where
  pub start : ℕ
  pub end : ℕ
  pub body : Body

-- the cue runs at tick t: start ≤ t < end
unfoldable pub runs : Cue → ℕ → Bool
runs c t = both (leb c.start t) (ltb t c.end)

-- the bodies of the cues that pass a test, in list order
unfoldable pub chosen : (Cue → Bool) → List Cue → List Body
chosen p [] = []
chosen p (c ∷ cs) = keep (p c) c.body (chosen p cs)

-- the bodies of the cues that run at tick t, in list order
unfoldable pub running_at : List Cue → ℕ → List Body
unfolding chosen
running_at cues t = chosen (λ c. runs c t) cues

-- each cue stands in the relation to all cues after it
unfoldable pub Pairs : (Cue → Cue → Type 0) → List Cue → Type 0
Pairs R [] = Unit {0}
Pairs R (c ∷ cs) = ((d : Cue) → Memᴰ d cs → R c d) × Pairs R cs

-- no two cues have one ID
abbrev pub Distinct : List Cue → Type 0
Distinct cs = Pairs (λ c d. d.body.id ≢ c.body.id) cs

-- starts never fall
abbrev pub Ordered : List Cue → Type 0
Ordered cs = Pairs (λ c d. c.start ≤ d.start) cs

-- each cue ends after it starts
abbrev pub Lasting : List Cue → Type 0
Lasting cs = (c : Cue) → Memᴰ c cs → c.start < c.end

-- each cue has an ID
abbrev pub Named : List Cue → Type 0
Named cs = (c : Cue) → Memᴰ c cs → (n : ℕ) × (c.body.id ≡ some n)

-- a list of cues for a timeline of T ticks
pub record Proper (cues : List Cue) (T : ℕ) : Type 0 where
  pub lasts : (c : Cue) → Memᴰ c cues → c.start < c.end
  pub ends : (c : Cue) → Memᴰ c cues → c.end ≤ T
  pub ordered : Ordered cues
  pub distinct : Distinct cues

-- two IDs are the same: both none, or one number
unfoldable pub same_id : Option ℕ → Option ℕ → Bool
same_id none none = true
same_id none (some n) = false
same_id (some m) none = false
same_id (some m) (some n) = eqb m n

-- two bodies are the same, by ID and texts
unfoldable pub same_body : Body → Body → Bool
same_body x y = both (same_id x.id y.id) (both (same_list x.identifier y.identifier) (both (same_list x.settings y.settings) (same_list x.payload y.payload)))
