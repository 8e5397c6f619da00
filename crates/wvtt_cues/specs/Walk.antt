-- Walking a sample: what `next_cue` answers, said of the cues that the sample holds from a place on. The statements are proved in
-- proofs/Walk.antt, proofs/Sound.antt and proofs/Whole.antt.
use Rattle.std.specs.Prelude.{ℕ, ◌≤◌, ◌<◌, ◌≡◌, List, [], ◌∷◌, eqb, length}
use Rattle.base.specs.Choice.{keep}
use Rattle.verdict.specs.Verdict.{Fine}
use Rattle.boxes.specs.Boxes.{Boxes, clean, broken, box, boxes_in, judged}
use Rattle.timeline.specs.Cues.{Body}
use Rattle.wvtt.specs.Kinds.{vttc}
use Rattle.wvtt.specs.Sample.{judge_sample, in_sample, end_sample}
use Rattle.wvtt.specs.Sound.{AllSound}
use Rattle.boxes.specs.declared.Part.{Part}
use Rattle.wvtt_cues.specs.declared.Parts.{Parts}
use Rattle.wvtt_cues.specs.Held.{Held, Cue, Refused, End}
use Rattle.wvtt_cues.specs.Cues.{parts_of, held_by, cues_in, sample_cues, next_cue}

-- a part lies within the first l bytes
pub record Within (l : ℕ) (x : Part) : Type 0 where
  pub order : x.from ≤ x.end
  pub inside : x.end ≤ l

-- the texts of a cue do
pub record Inside (l : ℕ) (c : Parts) : Type 0 where
  pub identifier : Within l c.identifier
  pub settings : Within l c.settings
  pub payload : Within l c.payload

-- the cues that a sample holds from a place on where a box begins
unfoldable pub held_from : List ℕ → ℕ → List Body
held_from s from = cues_in s (boxes_in s from (length s))

-- a cue and the place after it, as the first from a place on
pub record Next (s : List ℕ) (from : ℕ) (c : Parts) (n : ℕ) : Type 0 where
  pub held : held_from s from ≡ held_by s c ∷ held_from s n
  pub on : from < n
  pub within : n ≤ length s
  pub inside : Inside (length s) c

-- what an answer of `next_cue` at a place means
abbrev pub Means : List ℕ → ℕ → Held → Type 0
Means s from (Cue c n) = Next s from c n
Means s from (Refused r) = held_from s from ≡ []
Means s from End = held_from s from ≡ []

-- the answer of `next_cue`
abbrev pub NextMeans : Type 0
NextMeans = (s : List ℕ) (from : ℕ) (h : Held) → h ≡ next_cue s (boxes_in s from (length s)) → Means s from h

-- the cues of all `vttc` boxes from left to right
unfoldable pub every_cue : List ℕ → Boxes → List Body
every_cue s clean = []
every_cue s (broken r) = []
every_cue s (box p k b n rest) = keep (eqb k vttc) (held_by s (parts_of s (boxes_in s b n))) (every_cue s rest)

-- a sample without fault holds the cues of all its `vttc` boxes
abbrev pub SampleWhole : Type 0
SampleWhole = (s : List ℕ) → judge_sample s ≡ Fine → sample_cues s ≡ every_cue s (boxes_in s 0 (length s))

-- the cues of a sample without fault are within the limits, and their texts follow their rules
abbrev pub SampleSound : Type 0
SampleSound = (s : List ℕ) → judge_sample s ≡ Fine → AllSound (sample_cues s)

-- the boxes of a sample from a place on have no fault, whatever kinds stand before it
abbrev pub FineFrom : List ℕ → ℕ → Type 0
FineFrom s from = (before : List ℕ) × (judged (in_sample s) end_sample before (boxes_in s from (length s)) ≡ Fine)

-- there the answer is a cue, with no fault behind it either, or the end
abbrev pub Onward : List ℕ → Held → Type 0
Onward s (Cue c n) = FineFrom s n
Onward s (Refused r) = ⊥
Onward s End = Unit {0}

-- the walk over a sample without fault goes from cue to cue to the end, and refuses nothing
pub record WalkIsWhole : Type 0 where
  pub begins : (s : List ℕ) → judge_sample s ≡ Fine → FineFrom s 0
  pub goes : (s : List ℕ) (from : ℕ) → FineFrom s from → Onward s (next_cue s (boxes_in s from (length s)))
