-- Cutting a sample in two changes nothing, and right tracks of one list hold the same.
use Prim.Native.Nat.{◌+◌, ◌<◌, ℕ}
use mathlib.Core.Path.{◌∙◌, ◌≡◌, ap, sym}
use mathlib.Core.Logic.{◌↔◌, ◌⊎◌, inl, inr}
use mathlib.Core.Option.{some}
use mathlib.Core.List.Memᴰ
use mathlib.Core.List.{List, Memᴰ, [], ◌++◌, ◌∷◌}
use native.Mathlib.Omega.{arith}
use lib.Dec.{leb, ltb}
use borrow.Author.Tests.{lt-leb}
use Rattle.base.specs.Choice.{both, pick}
use Rattle.base.proofs.Choice.{either}
use Rattle.timeline.specs.Cues.{Cue, Proper}
use Rattle.timeline.specs.Tracks.{Positive, Right, Sample, copy, held_at, held_from, total}
use Rattle.timeline.specs.Checking.{accepted, check}
use Rattle.timeline.proofs.Holding.{from-later, from-now, none-there, total-append}
use Rattle.timeline.proofs.Answers.{accepts}

-- two tracks right for one list hold the same at every tick
pub same-everywhere : (cues : List Cue) (T : ℕ) (a b : List Sample) → Right cues T a → Right cues T b → (t : ℕ) → held_at a t ≡ held_at b t
same-everywhere cues T a b p q t =
    either T t
    (λ h. none-there a t (omega (arith, p.sums)) ∙ sym (none-there b t (omega (arith, q.sums))))
    (λ h. p.holds t h ∙ sym (q.holds t h))

module _ (s : Sample) (m n : ℕ) (e : m + n ≡ s.duration) (q : List Sample) where
  from-early : (b : ℕ) (x : Sample) (r : List Sample) (t : ℕ) → t < b → held_from b (x ∷ r) t ≡ held_from (b + x.duration) r t
  unfolding held_from
  from-early b x r t h = rw (lt-leb b t h)

  apart : (b : ℕ) (p : List Sample) (t : ℕ) → held_from b (p ++ s ∷ q) t ≡ held_from b (p ++ copy s m ∷ copy s n ∷ q) t
  unfolding copy held_from
  apart b [] t =
      let f : b + m + n ≡ b + s.duration = omega arith in
      let g : held_from (b + s.duration) q t ≡ held_from (b + m + n) q t = ap (λ (x : ℕ). held_from x q t) (sym f) in
      either b t
      (λ h. either (b + m) t
      (λ k. either (b + s.duration) t
      (λ i. from-later b s q t i ∙ g ∙ sym (from-later (b + m) (copy s n) q t (omega arith)) ∙ sym (from-later b (copy s m) (copy s n ∷ q) t k))
      (λ i. from-now b s q t h i ∙ sym (from-now (b + m) (copy s n) q t k (omega arith)) ∙ sym (from-later b (copy s m) (copy s n ∷ q) t k)))
      (λ k. from-now b s q t h (omega arith) ∙ sym (from-now b (copy s m) (copy s n ∷ q) t h k)))
      (λ h. from-early b s q t h ∙ g ∙ sym (from-early (b + m) (copy s n) q t (omega arith)) ∙ sym (from-early b (copy s m) (copy s n ∷ q) t h))
  apart b (x ∷ p) t = ap (pick (both (leb b t) (ltb t (b + x.duration))) (some x.held)) (apart (b + x.duration) p t)

-- a sample cut in two: at every tick the same is held
pub split-held : (p q : List Sample) (s : Sample) (m n : ℕ) → m + n ≡ s.duration → (t : ℕ) → held_at (p ++ s ∷ q) t ≡ held_at (p ++ copy s m ∷ copy s n ∷ q) t
unfolding held_at
split-held p q s m n e t = apart s m n e q 0 p t

pub split-total : (p q : List Sample) (s : Sample) (m n : ℕ) → m + n ≡ s.duration → total (p ++ s ∷ q) ≡ total (p ++ copy s m ∷ copy s n ∷ q)
unfolding total copy
split-total p q s m n e = omega (arith, total-append p (s ∷ q), total-append p (copy s m ∷ copy s n ∷ q))

pub split-positive : (p q : List Sample) (s : Sample) (m n : ℕ) → 0 < m → 0 < n → Positive (p ++ s ∷ q) → Positive (p ++ copy s m ∷ copy s n ∷ q)
unfolding copy
split-positive p q s m n a b pos x k = go (Memᴰ.append_cases p k)
  where
    third : (x ≡ copy s n) ⊎ Memᴰ x q → 0 < x.duration
    third (inl e) = omega (arith, ap (λ (y : Sample). y.duration) e)
    third (inr j) = pos x (Memᴰ.append_right p (Memᴰ.tail j))

    second : (x ≡ copy s m) ⊎ Memᴰ x (copy s n ∷ q) → 0 < x.duration
    second (inl e) = omega (arith, ap (λ (y : Sample). y.duration) e)
    second (inr j) = third (Memᴰ.cases_cons j)

    go : Memᴰ x p ⊎ Memᴰ x (copy s m ∷ copy s n ∷ q) → 0 < x.duration
    go (inl j) = pos x (Memᴰ.append_left (s ∷ q) j)
    go (inr j) = second (Memᴰ.cases_cons j)

-- the cut track is right exactly if the whole one was
pub split-right : (cues : List Cue) (T : ℕ) (p q : List Sample) (s : Sample) (m n : ℕ) → 0 < m → 0 < n → m + n ≡ s.duration
    → Positive (p ++ s ∷ q) → Right cues T (p ++ s ∷ q) ↔ Right cues T (p ++ copy s m ∷ copy s n ∷ q)
split-right cues T p q s m n a b e pos = (
  (λ r. record {
    positive = split-positive p q s m n a b pos;
    sums = sym (split-total p q s m n e) ∙ r.sums;
    holds = λ t l. sym (split-held p q s m n e t) ∙ r.holds t l;
  }),
  λ r. record {
    positive = pos;
    sums = split-total p q s m n e ∙ r.sums;
    holds = λ t l. split-held p q s m n e t ∙ r.holds t l;
  },
)

pub split-accepts : (cues : List Cue) (T : ℕ) (p q : List Sample) (s : Sample) (m n : ℕ) → Proper cues T → 0 < m → 0 < n → m + n ≡ s.duration
    → Positive (p ++ s ∷ q) → (check cues T (p ++ s ∷ q) ≡ accepted) ↔ (check cues T (p ++ copy s m ∷ copy s n ∷ q) ≡ accepted)
split-accepts cues T p q s m n ok a b e pos =
    let one = accepts cues T (p ++ s ∷ q) ok pos in
    let two = accepts cues T (p ++ copy s m ∷ copy s n ∷ q) ok (split-positive p q s m n a b pos) in
    let r = split-right cues T p q s m n a b e pos in
    ((λ h. two.1 (r.0 (one.0 h))), λ h. one.1 (r.1 (two.0 h)))
