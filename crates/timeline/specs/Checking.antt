-- The check of a track against a list of cues, sample by sample, and what its answers mean.
use Rattle.std.specs.Prelude.{ℕ, suc, ◌+◌, ◌<◌, ◌≤◌, ◌≡◌, ◌⊎◌, ◌≢◌, Bool, true, false, List, [], ◌∷◌, leb, ltb, length}
use Rattle.base.specs.Choice.{both, pick}
use Rattle.timeline.specs.Cues.{Body, Cue, same_body, running_at}
use Rattle.timeline.specs.Tracks.{Sample, total, end_of, held_of, There, Right}

-- how a cue stands to a stretch: it runs at no tick of it, at each, or at some only
pub data Stand : Type 0 where
  out : Stand
  whole : Stand
  part : Stand

-- the stretch is from b to e; the first test is for a start before its end
unfoldable pub standing : Cue → ℕ → ℕ → Stand
standing c b e = pick (ltb c.start e) (pick (leb c.end b) out (pick (both (leb c.start b) (leb e c.end)) whole part)) out

abbrev pub none_left : List Body → Bool
none_left [] = true
none_left (x ∷ xs) = false

-- a cue that runs through the stretch is the next one held; f judges the others
abbrev pub meets : Stand → Body → List Body → (List Body → Bool) → Bool
meets out x held f = f held
meets whole x [] f = false
meets whole x (y ∷ ys) f = both (same_body x y) (f ys)
meets part x held f = false

-- a sample from b to e holds what it should
unfoldable pub matches : List Cue → ℕ → ℕ → List Body → Bool
unfolding standing same_body
matches [] b e held = none_left held
matches (c ∷ cs) b e held = meets (standing c b e) c.body held (λ r. matches cs b e r)

-- a sample that begins at b ends by T and holds what it should
unfoldable pub fits : List Cue → ℕ → ℕ → Sample → Bool
unfolding matches
fits cues T b s = both (leb (b + s.duration) T) (matches cues b (b + s.duration) s.held)

-- the track is accepted; sample i is wrong; its n samples end before T
pub data Answer : Type 0 where
  accepted : Answer
  wrong : ℕ → Answer
  short : ℕ → Answer

abbrev pub onward : Bool → ℕ → (Unit {0} → Answer) → Answer
onward true i f = f tt
onward false i f = wrong i

-- the samples from number i on, which begins at b
unfoldable pub check_from : List Cue → ℕ → ℕ → ℕ → List Sample → Answer
unfolding fits
check_from cues T b i [] = pick (ltb b T) (short i) accepted
check_from cues T b i (s ∷ ss) = onward (fits cues T b s) i (λ _. check_from cues T (b + s.duration) (suc i) ss)

unfoldable pub check : List Cue → ℕ → List Sample → Answer
unfolding check_from
check cues T track = check_from cues T 0 0 track

-- sample i ends by T and holds the right cues at each of its ticks
abbrev pub Good : List Cue → ℕ → List Sample → ℕ → Type 0
Good cues T track i = (end_of track i ≤ T) × ((t : ℕ) → There track i t → held_of track i ≡ running_at cues t)

-- sample i ends past T or holds a tick with the wrong cues
abbrev pub Bad : List Cue → ℕ → List Sample → ℕ → Type 0
Bad cues T track i = (T < end_of track i) ⊎ ((t : ℕ) × There track i t × (held_of track i ≢ running_at cues t))

-- what each answer says: the track is right; i is the first bad sample; all are good and their sum is below T
abbrev pub Means : List Cue → ℕ → List Sample → Answer → Type 0
Means cues T track accepted = Right cues T track
Means cues T track (wrong i) = (i < length track) × Bad cues T track i × ((j : ℕ) → j < i → Good cues T track j)
Means cues T track (short n) = (n ≡ length track) × ((j : ℕ) → j < length track → Good cues T track j) × (total track < T)
