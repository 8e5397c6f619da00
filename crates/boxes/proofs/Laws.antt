-- Laws of the definitions of specs/Boxes.antt: what a step that gives a box says, and the boxes of a container with no fuel in sight.
use Prim.Native.Nat.{ℕ, zero, suc, ◌+◌, ◌-◌, ◌≤◌, ◌<◌}
use mathlib.Core.Path.{◌≡◌, refl, sym, ◌∙◌}
use mathlib.Core.List.{List}
use mathlib.Core.Bool.{Bool, true, false}
use native.Mathlib.Omega.{arith}
use native.Mathlib.Nat.{not-suc-le-zero}
use lib.Dec.{ltb, leb}
use borrow.Author.Tests.{ltb-false, leb-false, le-leb, lt-leb, lt-ltb, le-ltb}
use Rattle.base.specs.Choice.{pick}
use Rattle.verdict.specs.declared.Refusal.{Refusal}
use Rattle.verdict.specs.Judgement.{fault}
use Rattle.fields.specs.BigEndian.{be}
use Rattle.boxes.specs.declared.Step.{Step}
use Rattle.boxes.specs.declared.Step.TheVariants.{Box, Refused as Stopped, End}
use Rattle.boxes.specs.Boxes.{step_at, stopped_by, Boxes, clean, broken, box, on_step, boxes_f, boxes_in, place_of, passed}

boxed : (b1 b2 b3 b4 : Bool) (r q u : Refusal) (k b n k' b' n' : ℕ)
    → pick b1 End (pick b2 (Stopped r) (pick b3 (Stopped q) (pick b4 (Stopped u) (Box k b n)))) ≡ Box k' b' n'
    → (b1 ≡ false) × (b3 ≡ false) × (b4 ≡ false) × (b ≡ b') × (n ≡ n') × (k ≡ k')
boxed true b2 b3 b4 r q u k b n k' b' n' e = let z : ◌≡◌ {A = ℕ} 0 1 = cc in absurd (omega arith)
boxed false true b3 b4 r q u k b n k' b' n' e = let z : ◌≡◌ {A = ℕ} 0 1 = cc in absurd (omega arith)
boxed false false true b4 r q u k b n k' b' n' e = let z : ◌≡◌ {A = ℕ} 0 1 = cc in absurd (omega arith)
boxed false false false true r q u k b n k' b' n' e = let z : ◌≡◌ {A = ℕ} 0 1 = cc in absurd (omega arith)
boxed false false false false r q u k b n k' b' n' e = (refl, refl, refl, cc, cc, cc)

-- a box lies within its container, and its body begins behind 8 bytes of header
pub record Lies (at end body next : ℕ) : Type 0 where
  pub header : body ≡ at + 8
  pub order : body ≤ next
  pub inside : next ≤ end

pub step-box : (s : List ℕ) (at end k b n : ℕ) → step_at s at end ≡ Box k b n → Lies at end b n
unfolding step_at
step-box s at end k b n e =
    let h = boxed (leb end at) (ltb (end - at) 8) (ltb (be 4 s at) 8) (ltb (end - at) (be 4 s at)) (fault 1 at) (fault 2 at) (fault 1 at) (be 4 s (at + 4)) (at + 8) (at + be 4 s at) k b n e in
    let h1 = leb-false end at h.0 in
    let h3 = ltb-false (be 4 s at) 8 h.1 in
    let h4 = ltb-false (end - at) (be 4 s at) h.2 in
    record { header = sym h.3; order = omega (arith, h.3, h.4); inside = omega (arith, h.4) }

-- what the header says
pub step-reads : (s : List ℕ) (at end k b n : ℕ) → step_at s at end ≡ Box k b n → (k ≡ be 4 s (at + 4)) × (n ≡ at + be 4 s at)
unfolding step_at
step-reads s at end k b n e =
    let h = boxed (leb end at) (ltb (end - at) 8) (ltb (be 4 s at) 8) (ltb (end - at) (be 4 s at)) (fault 1 at) (fault 2 at) (fault 1 at) (be 4 s (at + 4)) (at + 8) (at + be 4 s at) k b n e in
    (sym h.5, sym h.4)

-- the cases of a step
pub step_end : (s : List ℕ) (at end : ℕ) → end ≤ at → step_at s at end ≡ End
unfolding step_at
step_end s at end h = simp (le-leb end at h)

pub step-short : (s : List ℕ) (at end : ℕ) → at < end → end - at < 8 → step_at s at end ≡ Stopped (fault 1 at)
unfolding step_at
step-short s at end h k = simp (lt-leb end at h, lt-ltb (end - at) 8 k)

pub step_small : (s : List ℕ) (at end : ℕ) → at < end → 8 ≤ end - at → be 4 s at < 8 → step_at s at end ≡ Stopped (fault 2 at)
unfolding step_at
step_small s at end h k l = simp (lt-leb end at h, le-ltb (end - at) 8 k, lt-ltb (be 4 s at) 8 l)

pub step_past : (s : List ℕ) (at end : ℕ) → at < end → 8 ≤ end - at → 8 ≤ be 4 s at → end - at < be 4 s at → step_at s at end ≡ Stopped (fault 1 at)
unfolding step_at
step_past s at end h k l m = simp (lt-leb end at h, le-ltb (end - at) 8 k, le-ltb (be 4 s at) 8 l, lt-ltb (end - at) (be 4 s at) m)

pub step-whole : (s : List ℕ) (at end : ℕ) → at < end → 8 ≤ end - at → 8 ≤ be 4 s at → be 4 s at ≤ end - at
    → step_at s at end ≡ Box (be 4 s (at + 4)) (at + 8) (at + be 4 s at)
unfolding step_at
step-whole s at end h k l m = simp (lt-leb end at h, le-ltb (end - at) 8 k, le-ltb (be 4 s at) 8 l, le-ltb (end - at) (be 4 s at) m)

-- boxes do not end before their container does
pub step-goes : (s : List ℕ) (at end : ℕ) → at < end → step_at s at end ≡ End → ⊥
unfolding step_at
step-goes s at end h e = go (ltb (end - at) 8) (ltb (be 4 s at) 8) (ltb (end - at) (be 4 s at)) _ _ _ _ _ _ (rw (lt-leb end at h) at e)
  where
    go : (x y z : Bool) (r q u : Refusal) (k b n : ℕ) → pick x (Stopped r) (pick y (Stopped q) (pick z (Stopped u) (Box k b n))) ≡ End → ⊥
    go true y z r q u k b n e = let i : ◌≡◌ {A = ℕ} 0 1 = cc in omega arith
    go false true z r q u k b n e = let i : ◌≡◌ {A = ℕ} 0 1 = cc in omega arith
    go false false true r q u k b n e = let i : ◌≡◌ {A = ℕ} 0 1 = cc in omega arith
    go false false false r q u k b n e = let i : ◌≡◌ {A = ℕ} 0 1 = cc in omega arith

-- and a box does not stand before the first
pub place_up : (s : List ℕ) (i at : ℕ) → at ≤ place_of s at i
unfolding place_of
place_up s zero at = omega arith
place_up s (suc i) at = let h = place_up s i (at + be 4 s at) in omega (arith, h)

on_same : (t : Step) (at : ℕ) (f g : ℕ → Boxes) → ((k b n : ℕ) → t ≡ Box k b n → f n ≡ g n) → on_step t at f ≡ on_step t at g
on_same (Box k b n) at f g h = rw (h k b n refl)
on_same (Stopped r) at f g h = refl
on_same End at f g h = refl

-- more fuel than bytes makes no difference
enough : (f g : ℕ) (s : List ℕ) (at end : ℕ) → end - at < f → end - at < g → boxes_f f s at end ≡ boxes_f g s at end
unfolding boxes_f
enough zero g s at end h k = absurd (not-suc-le-zero h)
enough (suc f) zero s at end h k = absurd (not-suc-le-zero k)
enough (suc f) (suc g) s at end h k =
    on_same (step_at s at end) at (λ n. boxes_f f s n end) (λ n. boxes_f g s n end)
    (λ kind b n e. let w = step-box s at end kind b n e in enough f g s n end (omega arith) (omega arith))

-- the equation of the definition
pub boxes-at : (s : List ℕ) (at end : ℕ) → boxes_in s at end ≡ on_step (step_at s at end) at (λ n. boxes_in s n end)
unfolding boxes_in boxes_f
boxes-at s at end =
    on_same (step_at s at end) at (λ n. boxes_f end s n end) (λ n. boxes_f (suc end) s n end)
    (λ kind b n e. let w = step-box s at end kind b n e in enough end (suc end) s n end (omega arith) (omega arith))

-- a step, and the boxes from there
pub boxes-box : (s : List ℕ) (at end k b n : ℕ) → step_at s at end ≡ Box k b n → boxes_in s at end ≡ box at k b n (boxes_in s n end)
boxes-box s at end k b n e = boxes-at s at end ∙ rw e

pub boxes-end : (s : List ℕ) (at end : ℕ) → step_at s at end ≡ End → boxes_in s at end ≡ clean
boxes-end s at end e = boxes-at s at end ∙ rw e

pub boxes-broken : (s : List ℕ) (at end : ℕ) (r : Refusal) → step_at s at end ≡ Stopped r → boxes_in s at end ≡ broken r
boxes-broken s at end r e = boxes-at s at end ∙ rw e

-- the step gives no box
abbrev pub NoBox : Step → Type 0
NoBox (Box k b n) = ⊥
NoBox (Stopped r) = Unit {0}
NoBox End = Unit {0}

-- in the `else` of `let Step::Box { .. } = t else`
pub not-box : (t : Step) → ((k b n : ℕ) → t ≡ Box k b n → ⊥) → NoBox t
not-box (Box k b n) h = absurd (h k b n refl)
not-box (Stopped r) h = tt
not-box End h = tt

stops : (t : Step) (at : ℕ) (f : ℕ → Boxes) → NoBox t → stopped_by t ≡ passed (on_step t at f)
unfolding passed
stops (Box k b n) at f h = absurd h
stops (Stopped r) at f h = refl
stops End at f h = refl

-- passing over the boxes: a turn, and the last step
pub passed-box : (s : List ℕ) (at end k b n : ℕ) → step_at s at end ≡ Box k b n → passed (boxes_in s n end) ≡ passed (boxes_in s at end)
unfolding passed
passed-box s at end k b n e = rw (boxes-box s at end k b n e)

pub passed-stop : (s : List ℕ) (at end : ℕ) (t : Step) → step_at s at end ≡ t → NoBox t → stopped_by t ≡ passed (boxes_in s at end)
passed-stop s at end t e h = rw (boxes-at s at end, e) (stops t at (λ n. boxes_in s n end) h)
