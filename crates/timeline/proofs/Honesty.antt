-- Every right track is an honest house's: the check accepts exactly those.
use Prim.Native.Nat.{◌+◌, ◌-◌, ◌<◌, ◌≤◌, ℕ}
use mathlib.Core.Path.{◌∙◌, ◌≡◌, ap, ap₂, refl, sym}
use mathlib.Core.Logic.{◌↔◌, ◌⊎◌, inl, inr}
use mathlib.Core.Option.{some}
use mathlib.Core.List.Memᴰ
use mathlib.Core.List.{List, Memᴰ, [], ◌++◌, ◌∷◌}
use native.Mathlib.Omega.{arith}
use native.Mathlib.Nat.{le_refl}
use Rattle.base.proofs.Choice.{either}
use Rattle.timeline.specs.Cues.{Body, Cue, Proper, running_at}
use Rattle.timeline.specs.Tracks.{Positive, Right, Sample, held_at, held_from, total}
use Rattle.timeline.specs.Packing.{Honest, Rising, marks, stretches}
use Rattle.timeline.specs.Checking.{accepted, check}
use Rattle.timeline.proofs.Holding.{from-later, from-now, some_inj}
use Rattle.timeline.proofs.Sorting.{sorted-only}
use Rattle.timeline.proofs.Answers.{accepts}
use Rattle.timeline.proofs.Packed.{honest-right, marks-le}
use Rattle.timeline.proofs.Fewest.{begins, cut-begins}

-- where the samples begin, and where the last ends
unfoldable bounds : ℕ → List Sample → List ℕ
bounds b [] = b ∷ []
bounds b (s ∷ ss) = b ∷ bounds (b + s.duration) ss

bounds-ge : (b : ℕ) (track : List Sample) (t : ℕ) → Memᴰ t (bounds b track) → b ≤ t
unfolding bounds
bounds-ge b [] t m = elim (Memᴰ.cases_cons m) [ inl q ↦ omega arith | inr k ↦ absurd (Memᴰ.not-nil k) ]
bounds-ge b (s ∷ ss) t m = elim (Memᴰ.cases_cons m) [ inl q ↦ omega arith | inr k ↦ omega (arith, bounds-ge (b + s.duration) ss t k) ]

bounds-rise : (b : ℕ) (track : List Sample) → Positive track → Rising (bounds b track)
unfolding bounds Rising
bounds-rise b [] pos = ((λ y m. absurd (Memᴰ.not-nil m)), tt)
bounds-rise b (s ∷ ss) pos =
    ((λ y m. omega (arith, pos s (Memᴰ.head refl), bounds-ge (b + s.duration) ss y m)), bounds-rise (b + s.duration) ss (λ x m. pos x (Memᴰ.tail m)))

bounds_of : (b : ℕ) (track : List Sample) (t : ℕ) → Memᴰ t (bounds b track) → (t ≡ b + total track) ⊎ Memᴰ t (begins b track)
unfolding bounds begins total
bounds_of b [] t m = inl (elim (Memᴰ.cases_cons m) [ inl q ↦ omega arith | inr k ↦ absurd (Memᴰ.not-nil k) ])
bounds_of b (s ∷ ss) t m = go (Memᴰ.cases_cons m) (λ k. bounds_of (b + s.duration) ss t k)
  where
    go : (t ≡ b) ⊎ Memᴰ t (bounds (b + s.duration) ss) → (Memᴰ t (bounds (b + s.duration) ss) → (t ≡ b + s.duration + total ss) ⊎ Memᴰ t (begins (b + s.duration) ss))
        → (t ≡ b + (s.duration + total ss)) ⊎ Memᴰ t (b ∷ begins (b + s.duration) ss)
    go (inl q) f = inr (Memᴰ.head q)
    go (inr k) f = elim (f k) [ inl q ↦ inl (omega arith) | inr j ↦ inr (Memᴰ.tail j) ]

of-bounds : (b : ℕ) (track : List Sample) (t : ℕ) → (t ≡ b + total track) ⊎ Memᴰ t (begins b track) → Memᴰ t (bounds b track)
unfolding bounds begins total
of-bounds b [] t (inl q) = let e : t ≡ b = omega arith in Memᴰ.head e
of-bounds b [] t (inr m) = absurd (Memᴰ.not-nil m)
of-bounds b (s ∷ ss) t (inl q) = Memᴰ.tail (of-bounds (b + s.duration) ss t (inl (omega arith)))
of-bounds b (s ∷ ss) t (inr m) = elim (Memᴰ.cases_cons m) [ inl q ↦ Memᴰ.head q | inr k ↦ Memᴰ.tail (of-bounds (b + s.duration) ss t (inr k)) ]

begins-lt : (b : ℕ) (track : List Sample) → Positive track → (t : ℕ) → Memᴰ t (begins b track) → t < b + total track
unfolding begins total
begins-lt b [] pos t m = absurd (Memᴰ.not-nil m)
begins-lt b (s ∷ ss) pos t m = elim (Memᴰ.cases_cons m) [
  | inl q ↦ omega (arith, pos s (Memᴰ.head refl))
  | inr k ↦ omega (arith, begins-lt (b + s.duration) ss (λ x j. pos x (Memᴰ.tail j)) t k)
]

same-sample : (s : Sample) (d : ℕ) (h : List Body) → s.duration ≡ d → s.held ≡ h → s ≡ record { duration = d; held = h }
same-sample s d h p q = λ i. record { duration = p i; held = q i }

-- a right track is the stretches between its own bounds
own : (cues : List Cue) (T b : ℕ) (track : List Sample) → Positive track → b + total track ≡ T → ((t : ℕ) → b ≤ t → t < T → held_from b track t ≡ some (running_at cues t))
    → track ≡ stretches (λ x y. running_at cues x) (bounds b track)
unfolding bounds stretches total
own cues T b [] pos sums holds = refl
own cues T b (s ∷ ss) pos sums holds = more ss (own cues T (b + s.duration) ss (λ x m. pos x (Memᴰ.tail m)) (omega arith) (λ t lo hi. sym (from-later b s ss t lo) ∙ holds t (omega arith) hi))
  where
    k : 0 < s.duration
    k = pos s (Memᴰ.head refl)

    held : s.held ≡ running_at cues b
    held = some_inj (sym (from-now b s ss b (le_refl b) (omega (arith, k))) ∙ holds b (le_refl b) (omega (arith, k)))

    first : s ≡ record { duration = b + s.duration - b; held = running_at cues b }
    first = same-sample s (b + s.duration - b) (running_at cues b) (omega arith) held

    more : (r : List Sample) → r ≡ stretches (λ x y. running_at cues x) (bounds (b + s.duration) r) → s ∷ r ≡ stretches (λ x y. running_at cues x) (b ∷ bounds (b + s.duration) r)
    more [] e = ap (λ (z : Sample). z ∷ []) first
    more (x ∷ r) e = ap₂ ◌∷◌ first e

-- the right tracks are the honest houses'
pub right-honest : (cues : List Cue) (T : ℕ) (track : List Sample) → Proper cues T → Right cues T track → Honest cues T track
unfolding marks held_at
right-honest cues T track ok right = record {
  further = begins 0 track;
  below = λ t m. omega (arith, begins-lt 0 track right.positive t m, right.sums);
  cut = own cues T 0 track right.positive (omega (arith, right.sums)) (λ t lo hi. right.holds t hi)
      ∙ ap (stretches (λ x y. running_at cues x)) (sorted-only (bounds 0 track) (marks cues T ++ begins 0 track) (record { rising = bounds-rise 0 track right.positive; members = λ t. (onto t, back t) }));
}
  where
    last : (t : ℕ) → t ≡ T → Memᴰ t (bounds 0 track)
    last t q = of-bounds 0 track t (inl (omega (arith, right.sums)))

    onto : (t : ℕ) → Memᴰ t (bounds 0 track) → Memᴰ t (marks cues T ++ begins 0 track)
    onto t m = elim (bounds_of 0 track t m) [
      | inl q ↦ (let e : t ≡ T = omega (arith, right.sums) in Memᴰ.tail (Memᴰ.head e))
      | inr k ↦ Memᴰ.append_right (marks cues T) k
    ]

    back : (t : ℕ) → Memᴰ t (marks cues T ++ begins 0 track) → Memᴰ t (bounds 0 track)
    back t m = elim (Memᴰ.append_cases (marks cues T) m) [
      | inl k ↦ either T t (λ h. last t (omega (arith, marks-le cues T ok t k))) (λ h. of-bounds 0 track t (inr (cut-begins cues T track ok right t k h)))
      | inr k ↦ of-bounds 0 track t (inr k)
    ]

pub accepts-honest : (cues : List Cue) (T : ℕ) (track : List Sample) → Proper cues T → Positive track → (check cues T track ≡ accepted) ↔ Honest cues T track
accepts-honest cues T track ok pos =
    let a = accepts cues T track ok pos in
    ((λ h. right-honest cues T track ok (a.0 h)), λ h. a.1 (honest-right cues T track ok h))
