-- Tracks of samples, what is held at a tick, and what makes a track right for a list of cues.
use Rattle.std.specs.Prelude.{ℕ, ◌+◌, ◌<◌, ◌≤◌, ◌≡◌, leb, ltb, length, take, get_or}
use Rattle.std.proofs.Math.Option.{Option, none, some}
use mathlib.Core.List.{List, [], ◌∷◌, Memᴰ}
use Rattle.base.specs.Choice.{both, pick}
use Rattle.timeline.specs.Cues.{Body, Cue, running_at}

-- a duration in ticks, and what is held, from left to right
pub record Sample : Type 0 where
  pub duration : ℕ
  pub held : List Body

unfoldable pub blank : Sample
blank = record { duration = 0; held = [] }

-- the sample, with another duration
unfoldable pub copy : Sample → ℕ → Sample
copy s m = record { duration = m; held = s.held }

-- the sum of the durations
unfoldable pub total : List Sample → ℕ
total [] = 0
total (s ∷ ss) = s.duration + total ss

-- where sample i begins: the sum of the durations before it
unfoldable pub begin_of : List Sample → ℕ → ℕ
begin_of track i = total (take i track)

unfoldable pub end_of : List Sample → ℕ → ℕ
end_of track i = begin_of track i + (get_or track i blank).duration

unfoldable pub held_of : List Sample → ℕ → List Body
held_of track i = (get_or track i blank).held

-- sample i is there at tick t: begin ≤ t < begin + duration
abbrev pub There : List Sample → ℕ → ℕ → Type 0
There track i t = (i < length track) × (begin_of track i ≤ t) × (t < end_of track i)

-- what the sample there at tick t holds, the first sample beginning at b; none where no sample is there
unfoldable pub held_from : ℕ → List Sample → ℕ → Option (List Body)
held_from b [] t = none
held_from b (s ∷ ss) t = pick (both (leb b t) (ltb t (b + s.duration))) (some s.held) (held_from (b + s.duration) ss t)

unfoldable pub held_at : List Sample → ℕ → Option (List Body)
unfolding held_from
held_at track t = held_from 0 track t

-- no duration is 0
abbrev pub Positive : List Sample → Type 0
Positive track = (s : Sample) → Memᴰ s track → 0 < s.duration

-- the track is right for the cues on a timeline of T ticks: at each tick it holds what runs
pub record Right (cues : List Cue) (T : ℕ) (track : List Sample) : Type 0 where
  pub positive : Positive track
  pub sums : total track ≡ T
  pub holds : (t : ℕ) → t < T → held_at track t ≡ some (running_at cues t)
