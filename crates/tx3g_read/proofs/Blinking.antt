-- Retired blinking: what the search for a `blnk` tells, and that an answer carries it exactly if the sample has no fault and one of its boxes is a `blnk`.
use Prim.Native.Nat.{ℕ, zero, suc, ◌+◌, ◌-◌, ◌<◌}
use mathlib.Core.Path.{◌≡◌, refl, sym, ◌∙◌}
use mathlib.Core.Logic.{◌↔◌}
use mathlib.Core.Bool.{Bool, true, false}
use mathlib.Core.List.{List, [], ◌∷◌}
use native.Mathlib.Omega.{arith}
use native.Mathlib.Nat.{not-suc-le-zero}
use lib.Dec.{eqb}
use lib.ListN.{length}
use borrow.Author.Tests.{eq-eqb, eqb-true}
use Rattle.base.specs.Choice.{pick, any_of}
use Rattle.base.proofs.Tests.{one-of-comm}
use Rattle.verdict.specs.Verdict.{Verdict, Fine}
use Rattle.verdict.proofs.Judgement.{both-fine}
use Rattle.fields.specs.BigEndian.{be}
use Rattle.boxes.specs.declared.Step.{Step}
use Rattle.boxes.specs.declared.Step.TheVariants.{Box, Refused as Stopped, End}
use Rattle.boxes.specs.Boxes.{step_at, Boxes, clean, broken, box, on_step, boxes_in, place_of, judged}
use Rattle.boxes.proofs.Laws.{step-box, step-reads, step-goes, boxes-at, place_up}
use Rattle.bodies.specs.Body.{Body, At, Refused as NotRead, Nowhere}
use Rattle.bodies.specs.Bodies.{body_of}
use Rattle.tx3g_contents.specs.Kinds.{blnk}
use Rattle.tx3g_entry.specs.Entry.{nothing_more, fonts_of}
use Rattle.tx3g_sample.specs.Reading.{Reading, Good, BadEntry as EntryRefused, BadSample as SampleRefused}
use Rattle.tx3g_sample.specs.Sample.{text_end, in_sample, modifiers_of, fonts_in, judge_modifiers, read_sample}
use Rattle.tx3g_sample.proofs.Laws.{read-good}
use Rattle.tx3g_read.specs.Sample.{has_box, retired_blinking, content_by, content_of}
use Rattle.tx3g_read.specs.Statements.{BlnkAt, Carries, BlinkingIs}

-- what a search for the body of a box tells of the box
abbrev pub found : Body → Bool
found (At b) = true
found (NotRead r) = false
found Nowhere = false

pub found-is : (k : ℕ) (bs : Boxes) → found (body_of k bs) ≡ has_box k bs
unfolding has_box body_of
found-is k clean = refl
found-is k (broken r) = refl
found-is k (box p j b n rest) = go (eqb j k) (found-is k rest)
  where
    go : (t : Bool) → found (body_of k rest) ≡ has_box k rest → found (pick t (At b) (body_of k rest)) ≡ any_of t (has_box k rest)
    go true h = refl
    go false h = h

-- box i from a place on is of kind k
abbrev KindAt : List ℕ → ℕ → ℕ → ℕ → ℕ → Type 0
KindAt s k end at i = (place_of s at i < end) × (be 4 s (place_of s at i + 4) ≡ k)

module _ (s : List ℕ) (k end : ℕ) where
  -- a box that is there has a number
  numbered : (f at : ℕ) → end - at < f → has_box k (boxes_in s at end) ≡ true → (i : ℕ) × KindAt s k end at i
  unfolding has_box place_of
  numbered zero at l h = absurd (not-suc-le-zero l)
  numbered (suc f) at l h = go (step_at s at end) refl (rw (boxes-at s at end) at h) (λ n x y. numbered f n x y)
    where
      go : (t : Step) → step_at s at end ≡ t → has_box k (on_step t at (λ n. boxes_in s n end)) ≡ true
          → ((n : ℕ) → end - n < f → has_box k (boxes_in s n end) ≡ true → (i : ℕ) × KindAt s k end n i) → (i : ℕ) × KindAt s k end at i
      go (Box j b n) e q rest = here (eqb j k) refl q
        where
          here : (t : Bool) → eqb j k ≡ t → any_of t (has_box k (boxes_in s n end)) ≡ true → (i : ℕ) × KindAt s k end at i
          here true x u = let w = step-box s at end j b n e in (0, (omega arith, sym (step-reads s at end j b n e).0 ∙ eqb-true j k x))
          here false x u =
              let w = step-box s at end j b n e in
              let r : (i : ℕ) × KindAt s k end (at + be 4 s at) i = rw (← (step-reads s at end j b n e).1) (rest n (omega arith) u) in
              (suc r.0, r.1)
      go (Stopped r) e q rest = let z : ◌≡◌ {A = ℕ} 0 1 = cc in absurd (omega arith)
      go End e q rest = let z : ◌≡◌ {A = ℕ} 0 1 = cc in absurd (omega arith)

  -- among boxes without fault there is one at each place before the end
  module _ (inside : List ℕ → ℕ → ℕ → ℕ → ℕ → Verdict) (last : List ℕ → Verdict) where
    at-box : (at : ℕ) (before : List ℕ) → judged inside last before (boxes_in s at end) ≡ Fine → at < end
        → ((j b n : ℕ) → step_at s at end ≡ Box j b n → judged inside last (j ∷ before) (boxes_in s n end) ≡ Fine → any_of (eqb j k) (has_box k (boxes_in s n end)) ≡ true)
        → has_box k (boxes_in s at end) ≡ true
    unfolding has_box judged
    at-box at before f h here = rw (boxes-at s at end) (go (step_at s at end) refl (rw (boxes-at s at end) at f))
      where
        go : (t : Step) → step_at s at end ≡ t → judged inside last before (on_step t at (λ n. boxes_in s n end)) ≡ Fine → has_box k (on_step t at (λ n. boxes_in s n end)) ≡ true
        go (Box j b n) e q = here j b n e (both-fine (inside before at j b n) _ q).1
        go (Stopped r) e q = let z : ◌≡◌ {A = ℕ} 0 1 = cc in absurd (omega arith)
        go End e q = absurd (step-goes s at end h e)

    -- so a box that has a number is there
    there : (i at : ℕ) (before : List ℕ) → judged inside last before (boxes_in s at end) ≡ Fine → KindAt s k end at i → has_box k (boxes_in s at end) ≡ true
    unfolding place_of
    there zero at before f h = at-box at before f h.0 (λ j b n e q. rw (eq-eqb j k ((step-reads s at end j b n e).0 ∙ h.1)))
    there (suc i) at before f h =
        let w = place_up s i (at + be 4 s at) in
        at-box at before f (omega (arith, w, h.0))
        (λ j b n e q. one-of-comm (eqb j k) (has_box k (boxes_in s n end)) ∙ rw (there i n (j ∷ before) q (rw (step-reads s at end j b n e).1 h)))

-- in a sample without fault
blinking-at : (e s : List ℕ) (n : ℕ) → judge_modifiers e n s ≡ Fine → (retired_blinking s ≡ true) ↔ ((i : ℕ) × BlnkAt s i)
unfolding retired_blinking judge_modifiers modifiers_of
blinking-at e s n m = (
  λ h. numbered s blnk (length s) (suc (length s - text_end s)) (text_end s) (omega arith) h,
  λ w. there s blnk (length s) (in_sample (fonts_in e (fonts_of e)) n s) nothing_more w.0 (text_end s) [] m w.1,
)

pub blinking-is : BlinkingIs
unfolding content_of
blinking-is e s = go (read_sample e s) refl
  where
    go : (r : Reading) → read_sample e s ≡ r → Carries (content_by s r) ↔ (((n : ℕ) × (r ≡ Good n)) × ((i : ℕ) × BlnkAt s i))
    go (Good n) q = let w = blinking-at e s n (read-good e s n q).modifiers in (λ h. ((n, refl), w.0 h), λ h. w.1 h.1)
    go (EntryRefused r) q = (λ h. absurd h, λ h. let z : ◌≡◌ {A = ℕ} 0 1 = cc in absurd (omega arith))
    go (SampleRefused r) q = (λ h. absurd h, λ h. let z : ◌≡◌ {A = ℕ} 0 1 = cc in absurd (omega arith))
