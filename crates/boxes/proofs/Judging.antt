-- Laws for a loop that judges the boxes of a container: a turn, a turn that refuses, and the last step.
use Prim.Native.Nat.{ℕ}
use mathlib.Core.Path.{◌≡◌, refl}
use mathlib.Core.List.{List, ◌∷◌}
use Rattle.verdict.specs.declared.Refusal.{Refusal}
use Rattle.verdict.specs.Verdict.{Verdict, Fine, Refused}
use Rattle.verdict.specs.Judgement.{◌then◌}
use Rattle.boxes.specs.declared.Step.{Step}
use Rattle.boxes.specs.declared.Step.TheVariants.{Box, Refused as Stopped, End}
use Rattle.boxes.specs.Boxes.{step_at, stopped_by, Boxes, on_step, boxes_in, judged}
use Rattle.boxes.proofs.Laws.{boxes-at, boxes-box, NoBox}

module _ (inside : List ℕ → ℕ → ℕ → ℕ → ℕ → Verdict) (last : List ℕ → Verdict) (s : List ℕ) (at end : ℕ) (before : List ℕ) where
  pub judged-box : (k b n : ℕ) → step_at s at end ≡ Box k b n → inside before at k b n ≡ Fine
      → judged inside last (k ∷ before) (boxes_in s n end) ≡ judged inside last before (boxes_in s at end)
  unfolding judged
  judged-box k b n e h = rw (boxes-box s at end k b n e, judged, h)

  pub judged-refused : (k b n : ℕ) (v : Verdict) (r : Refusal) → step_at s at end ≡ Box k b n → v ≡ inside before at k b n → v ≡ Refused r
      → v ≡ judged inside last before (boxes_in s at end)
  unfolding judged
  judged-refused k b n v r e h q = rw (boxes-box s at end k b n e, judged, ← h, q)

  stops : (t : Step) (f : ℕ → Boxes) → NoBox t → stopped_by t then last before ≡ judged inside last before (on_step t at f)
  unfolding judged
  stops (Box k b n) f h = absurd h
  stops (Stopped r) f h = refl
  stops End f h = refl

  pub judged-stop : (t : Step) → step_at s at end ≡ t → NoBox t → stopped_by t then last before ≡ judged inside last before (boxes_in s at end)
  judged-stop t e h = rw (boxes-at s at end, e) (stops t (λ n. boxes_in s n end) h)
