-- Walking a sample, as specs/Walk.antt says it.
use Prim.Native.Nat.{ℕ, zero, suc, ◌-◌, ◌≤◌, ◌<◌}
use mathlib.Core.Path.{◌≡◌, refl, sym, ◌∙◌, subst}
use mathlib.Core.List.{List, []}
use mathlib.Core.Bool.{Bool, true, false}
use native.Mathlib.Omega.{arith}
use native.Mathlib.Nat.{not-suc-le-zero}
use lib.Dec.{eqb}
use lib.ListN.{length}
use borrow.Author.Tests.{eqb-true, eqb-false}
use Rattle.base.specs.Choice.{pick}
use Rattle.base.proofs.Choice.{by-test}
use Rattle.verdict.specs.Verdict.{Verdict, Fine, Refused as Fault}
use Rattle.boxes.specs.declared.Step.{Step}
use Rattle.boxes.specs.declared.Step.TheVariants.{Box, Refused as Stopped, End as Ended}
use Rattle.boxes.specs.Boxes.{step_at, Boxes, clean, broken, box, on_step, boxes_f, boxes_in, passed}
use Rattle.boxes.proofs.Laws.{step-box, boxes-at, boxes-box, NoBox}
use Rattle.wvtt.specs.Kinds.{vttc, iden, sttg, payl}
use Rattle.boxes.specs.declared.Part.{Part}
use Rattle.wvtt_cues.specs.Held.{Held, Cue, Refused, End}
use Rattle.wvtt_cues.specs.Cues.{nowhere, placed, body_of, with_id, parts_of, if_whole, inner_of, held_then, cues_in, cue_by, next_cue}
use Rattle.wvtt_cues.specs.Walk.{Within, Inside, held_from, Means, NextMeans}
use Rattle.wvtt_cues.proofs.Laws.{next-stop, next-found, next-other}

-- ---- parts lie within the sample

-- the bodies of boxes end before l
Bounded : ℕ → Boxes → Type 0
Bounded l clean = Unit {0}
Bounded l (broken r) = Unit {0}
Bounded l (box p k b n rest) = (b ≤ n) × (n ≤ l) × Bounded l rest

bounded-f : (f : ℕ) (s : List ℕ) (from end l : ℕ) → end ≤ l → Bounded l (boxes_f f s from end)
unfolding boxes_f Bounded
bounded-f zero s from end l h = tt
bounded-f (suc f) s from end l h = go (step_at s from end) refl (λ n. bounded-f f s n end l h)
  where
    go : (t : Step) → step_at s from end ≡ t → ((n : ℕ) → Bounded l (boxes_f f s n end)) → Bounded l (on_step t from (λ n. boxes_f f s n end))
    go (Box k b n) e rest = let w = step-box s from end k b n e in (w.order, omega arith, rest n)
    go (Stopped r) e rest = tt
    go Ended e rest = tt

bounded : (s : List ℕ) (from end l : ℕ) → end ≤ l → Bounded l (boxes_in s from end)
unfolding boxes_in
bounded s from end l h = bounded-f (suc end) s from end l h

body-within : (k l : ℕ) (x : Part) (bs : Boxes) → Bounded l bs → Within l x → Within l (body_of k x bs)
unfolding body_of Bounded placed
body-within k l x clean b w = w
body-within k l x (broken r) b w = w
body-within k l x (box p j f n rest) b w = body-within k l (pick (eqb j k) (record { from = f; end = n }) x) rest b.2 (go (eqb j k))
  where
    go : (c : Bool) → Within l (pick c (record { from = f; end = n }) x)
    go true = record { order = b.0; inside = b.1 }
    go false = w

nowhere-within : (l : ℕ) → Within l nowhere
unfolding nowhere
nowhere-within l = record { order = omega arith; inside = omega arith }

parts-inside : (s : List ℕ) (from end l : ℕ) → end ≤ l → Inside l (parts_of s (boxes_in s from end))
unfolding parts_of with_id
parts-inside s from end l h =
    let b = bounded s from end l h in
    let w = nowhere-within l in
    record {
      identifier = body-within iden l nowhere (boxes_in s from end) b w;
      settings = body-within sttg l nowhere (boxes_in s from end) b w;
      payload = body-within payl l nowhere (boxes_in s from end) b w;
    }

-- ---- the cues from a place on

module _ (s : List ℕ) where
  no-box : (from : ℕ) (t : Step) → step_at s from (length s) ≡ t → NoBox t → held_from s from ≡ []
  unfolding held_from cues_in
  no-box from t e h = rw (boxes-at s from (length s), e) (go t h)
    where
      go : (u : Step) → NoBox u → cues_in s (on_step u from (λ n. boxes_in s n (length s))) ≡ []
      go (Box k b n) h = absurd h
      go (Stopped r) h = refl
      go Ended h = refl

  a-box : (from k b n : ℕ) → step_at s from (length s) ≡ Box k b n → held_from s from ≡ pick (eqb k vttc) (held_then s (inner_of s (boxes_in s b n)) (held_from s n)) (held_from s n)
  unfolding held_from cues_in
  a-box from k b n e = rw (boxes-box s from (length s) k b n e)

  passed_on : (from n : ℕ) (h : Held) → from < n → held_from s from ≡ held_from s n → Means s n h → Means s from h
  passed_on from n (Cue c m) l e w = record { held = e ∙ w.held; on = omega (arith, w.on); within = w.within; inside = w.inside }
  passed_on from n (Refused r) l e w = e ∙ w
  passed_on from n End l e w = e ∙ w

  -- a cue, its boxes whole or not
  a-cue : (from b n : ℕ) (v : Verdict) → from < n → n ≤ length s → held_from s from ≡ held_then s (if_whole v (parts_of s (boxes_in s b n))) (held_from s n)
      → Means s from (cue_by (if_whole v (parts_of s (boxes_in s b n))) n)
  a-cue from b n Fine l h e = record { held = e; on = l; within = h; inside = parts-inside s b n (length s) h }
  a-cue from b n (Fault r) l h e = e

  next-means-f : (f from : ℕ) → length s - from < f → Means s from (next_cue s (boxes_in s from (length s)))
  next-means-f zero from h = absurd (not-suc-le-zero h)
  next-means-f (suc f) from h = go (step_at s from (length s)) refl (λ n l. next-means-f f n l)
    where
      go : (t : Step) → step_at s from (length s) ≡ t → ((n : ℕ) → length s - n < f → Means s n (next_cue s (boxes_in s n (length s)))) → Means s from (next_cue s (boxes_in s from (length s)))
      go (Box k b n) e rest =
          let w = step-box s from (length s) k b n e in
          by-test (eqb k vttc)
          (λ q. subst (Means s from) (sym (next-found s from (length s) k b n e (eqb-true k vttc q)))
          (a-cue from b n (passed (boxes_in s b n)) (omega arith) w.inside (a-box from k b n e ∙ rw q)))
          (λ q. subst (Means s from) (next-other s from (length s) k b n e (eqb-false k vttc q))
          (passed_on from n (next_cue s (boxes_in s n (length s))) (omega arith) (a-box from k b n e ∙ rw q) (rest n (omega arith))))
      go (Stopped r) e rest = subst (Means s from) (sym (next-stop s from (length s) (Stopped r) e tt)) (no-box from (Stopped r) e tt)
      go Ended e rest = subst (Means s from) (sym (next-stop s from (length s) Ended e tt)) (no-box from Ended e tt)

pub next-means : NextMeans
next-means s from h e = subst (Means s from) (sym e) (next-means-f s (suc (length s - from)) from (omega arith))

-- the answer is no cue
abbrev pub NoCue : Held → Type 0
NoCue (Cue c n) = ⊥
NoCue (Refused r) = Unit {0}
NoCue End = Unit {0}

pub next-none : (s : List ℕ) (from : ℕ) (h : Held) → h ≡ next_cue s (boxes_in s from (length s)) → NoCue h → held_from s from ≡ []
next-none s from (Cue c n) e t = absurd t
next-none s from (Refused r) e t = next-means s from (Refused r) e
next-none s from End e t = next-means s from End e
