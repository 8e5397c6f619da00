-- The boxes of a container. Document 01, 'WebVTT samples': a 4-byte size counting itself, a 4-byte type, then the body.
use Rattle.std.specs.Prelude.{ℕ, zero, suc, ◌+◌, ◌-◌, List, [], ◌∷◌, Bool, false, ltb, leb, eqb, take, drop}
use Rattle.base.specs.Choice.{pick, any_of}
use Rattle.verdict.specs.declared.Refusal.{Refusal}
use Rattle.verdict.specs.Verdict.{Verdict, Fine, Refused}
use Rattle.verdict.specs.Judgement.{fault, ◌then◌}
use Rattle.fields.specs.BigEndian.{be}
use Rattle.boxes.specs.declared.Step.{Step}
use Rattle.boxes.specs.declared.Step.TheVariants.{Box, Refused as Stopped, End}

-- the step at `at` in a container that ends at `end`: the end; or a header of under 8 bytes (1), a size below 8 (2), a size past the container (1); or the box
unfoldable pub step_at : List ℕ → ℕ → ℕ → Step
step_at s at end =
    pick (leb end at) End
    (pick (ltb (end - at) 8) (Stopped (fault 1 at))
    (pick (ltb (be 4 s at) 8) (Stopped (fault 2 at))
    (pick (ltb (end - at) (be 4 s at)) (Stopped (fault 1 at))
    (Box (be 4 s (at + 4)) (at + 8) (at + be 4 s at)))))

abbrev pub stopped_by : Step → Verdict
stopped_by (Box k b n) = Fine
stopped_by (Stopped r) = Refused r
stopped_by End = Fine

-- what a container holds: boxes, each by its place, type, body and the place after it, and then a clean end or a header that is refused
pub data Boxes : Type 0 where
  clean : Boxes
  broken : Refusal → Boxes
  box : ℕ → ℕ → ℕ → ℕ → Boxes → Boxes

abbrev pub on_step : Step → ℕ → (ℕ → Boxes) → Boxes
on_step (Box k b n) at rest = box at k b n (rest n)
on_step (Stopped r) at rest = broken r
on_step End at rest = clean

-- at most f boxes
unfoldable pub boxes_f : ℕ → List ℕ → ℕ → ℕ → Boxes
unfolding step_at
boxes_f zero s at end = clean
boxes_f (suc f) s at end = on_step (step_at s at end) at (λ n. boxes_f f s n end)

-- the boxes from `at` to `end`; each has 8 bytes or more, so there are fewer of them than bytes
unfoldable pub boxes_in : List ℕ → ℕ → ℕ → Boxes
unfolding boxes_f
boxes_in s at end = boxes_f (suc end) s at end

-- where box i stands, from 0: boxes lie end to end from `at` on, each as long as its size says
unfoldable pub place_of : List ℕ → ℕ → ℕ → ℕ
place_of s at zero = at
place_of s at (suc i) = place_of s (at + be 4 s at) i

-- the boxes are whole
unfoldable pub passed : Boxes → Verdict
passed clean = Fine
passed (broken r) = Refused r
passed (box p k b n rest) = passed rest

-- how often a kind stands in a list of kinds
unfoldable pub times : ℕ → List ℕ → ℕ
times k [] = 0
times k (j ∷ js) = pick (eqb j k) (suc (times k js)) (times k js)

-- a kind stands in a list of kinds
unfoldable pub among : ℕ → List ℕ → Bool
among k [] = false
among k (j ∷ js) = any_of (eqb j k) (among k js)

-- Boxes are judged from left to right: a header first, then the box by `inside`, which is told the kinds before it; at the container's end `last` judges by all its kinds.
unfoldable pub judged : (List ℕ → ℕ → ℕ → ℕ → ℕ → Verdict) → (List ℕ → Verdict) → List ℕ → Boxes → Verdict
judged inside last before clean = last before
judged inside last before (broken r) = Refused r
judged inside last before (box p k b n rest) = inside before p k b n then judged inside last (k ∷ before) rest

-- the bytes from b to n
unfoldable pub part : List ℕ → ℕ → ℕ → List ℕ
part s b n = take (n - b) (drop b s)
