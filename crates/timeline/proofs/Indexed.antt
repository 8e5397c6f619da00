-- The same facts by index, for code over numbered records.
use Prim.Native.Nat.{◌-◌, ◌<◌, ◌≤◌, suc, zero, ℕ}
use mathlib.Core.Path.{◌≡◌, ap, refl, subst, sym}
use mathlib.Core.Logic.{◌↔◌, ◌⊎◌, inl, inr}
use mathlib.Core.List.{List, Memᴰ, [], ◌∷◌}
use native.Mathlib.Omega.{arith}
use native.Mathlib.Nat.{le_of_suc-le-suc, le_refl, not-suc-le-zero}
use lib.ListN.{get_or, length}
use Rattle.base.proofs.Choice.{either}
use Rattle.timeline.specs.Cues.{Body, Cue, Pairs}
use Rattle.timeline.specs.Tracks.{blank}
use Rattle.timeline.specs.Packing.{Rising, sorted, stretches}
use Rattle.timeline.proofs.Sorting.{sorted-sorts}
use Rattle.timeline.specs.Nearest.{nearest}
use Rattle.timeline.proofs.Nearest.{nearest-ge, nearest-le}

-- members by index
pub mem_index : {A : Type 0} (l : List A) (x d : A) → Memᴰ x l → (i : ℕ) × (i < length l) × (x ≡ get_or l i d)
mem_index [] x d m = absurd (mathlib.Core.List.Memᴰ.not-nil m)
mem_index (y ∷ l) x d m = go (mathlib.Core.List.Memᴰ.cases_cons m) (λ k. mem_index l x d k)
  where
    go : (x ≡ y) ⊎ Memᴰ x l → (Memᴰ x l → (i : ℕ) × (i < length l) × (x ≡ get_or l i d)) → (i : ℕ) × (i < length (y ∷ l)) × (x ≡ get_or (y ∷ l) i d)
    go (inl e) f = (0, omega arith, e)
    go (inr k) f = let w = f k in (suc w.0, omega (arith, w.1), w.2)

pub index-mem : {A : Type 0} (l : List A) (i : ℕ) (d : A) → i < length l → Memᴰ (get_or l i d) l
index-mem [] i d h = absurd (not-suc-le-zero h)
index-mem (y ∷ l) zero d h = mathlib.Core.List.Memᴰ.head refl
index-mem (y ∷ l) (suc i) d h = mathlib.Core.List.Memᴰ.tail (index-mem l i d (le_of_suc-le-suc h))

-- a relation of each cue to all later ones, by index
pub pairs-index : (R : Cue → Cue → Type 0) (d : Cue) (l : List Cue) → ((i j : ℕ) → i < j → j < length l → R (get_or l i d) (get_or l j d)) → Pairs R l
unfolding Pairs
pairs-index R d [] h = tt
pairs-index R d (c ∷ l) h = (
  (λ x m. let w = mem_index l x d m in subst (λ (z : Cue). R c z) (sym w.2) (h 0 (suc w.0) (omega arith) (omega (arith, w.1)))),
  pairs-index R d l (λ i j a b. h (suc i) (suc j) (omega arith) (omega arith)),
)

-- a rising list by index
pub rising-index : (l : List ℕ) → Rising l → (i j : ℕ) → i < j → j < length l → get_or l i 0 < get_or l j 0
unfolding Rising
rising-index [] r i j a b = absurd (not-suc-le-zero b)
rising-index (x ∷ l) r zero zero a b = absurd (not-suc-le-zero a)
rising-index (x ∷ l) r zero (suc j) a b = r.0 (get_or l j 0) (index-mem l j 0 (le_of_suc-le-suc b))
rising-index (x ∷ l) r (suc i) zero a b = absurd (not-suc-le-zero a)
rising-index (x ∷ l) r (suc i) (suc j) a b = rising-index l r.1 i j (le_of_suc-le-suc a) (le_of_suc-le-suc b)

-- stretch i of a list of cuts
pub stretch-at : (h : ℕ → ℕ → List Body) (l : List ℕ) (i : ℕ) → suc i < length l
    → get_or (stretches h l) i blank ≡ record { duration = get_or l (suc i) 0 - get_or l i 0; held = h (get_or l i 0) (get_or l (suc i) 0) }
unfolding stretches
stretch-at h [] i a = absurd (not-suc-le-zero a)
stretch-at h (b ∷ []) i a = absurd (omega arith)
stretch-at h (b ∷ e ∷ r) zero a = refl
stretch-at h (b ∷ e ∷ r) (suc i) a = stretch-at h (e ∷ r) i (le_of_suc-le-suc a)

-- the loop of a packer that searches: from cut i the nearest later mark is cut i + 1, and the loop goes on while the cut is below T
module _ (T : ℕ) (m : List ℕ) (tin : Memᴰ T m) (top : (t : ℕ) → Memᴰ t m → t ≤ T) where
  rises : Rising (sorted m)
  rises = (sorted-sorts m).rising

  pub cut-next : (i : ℕ) → suc i < length (sorted m) → nearest T (get_or (sorted m) i 0) m ≡ get_or (sorted m) (suc i) 0
  cut-next i a =
      let b : ℕ = get_or (sorted m) i 0 in
      let e : ℕ = get_or (sorted m) (suc i) 0 in
      let here : Memᴰ (get_or (sorted m) (suc i) 0) m = ((sorted-sorts m).members (get_or (sorted m) (suc i) 0)).0 (index-mem (sorted m) (suc i) 0 a) in
      let lo = nearest-ge T (get_or (sorted m) i 0) (get_or (sorted m) (suc i) 0) m (top (get_or (sorted m) (suc i) 0) here) (λ x k h. least x (mem_index (sorted m) x 0 (((sorted-sorts m).members x).1 k)) h) in
      let hi = nearest-le T (get_or (sorted m) i 0) (get_or (sorted m) (suc i) 0) m here (rising-index (sorted m) rises i (suc i) (le_refl (suc i)) a) in
      omega (arith, lo, hi)
    where
      least : (x : ℕ) → (j : ℕ) × (j < length (sorted m)) × (x ≡ get_or (sorted m) j 0) → get_or (sorted m) i 0 < x → get_or (sorted m) (suc i) 0 ≤ x
      least x w h =
          either w.0 i
          (λ k. absurd (either i w.0
          (λ n. let q : w.0 ≡ i = omega arith in omega (arith, w.2, ap (λ (z : ℕ). get_or (sorted m) z 0) q))
          (λ n. omega (arith, w.2, rising-index (sorted m) rises w.0 i n (omega arith)))))
          (λ k. either w.0 (suc i)
          (λ n. let q : w.0 ≡ suc i = omega arith in omega (arith, w.2, ap (λ (z : ℕ). get_or (sorted m) z 0) q))
          (λ n. omega (arith, w.2, rising-index (sorted m) rises (suc i) w.0 n w.1)))

  pub cut-more : (i : ℕ) → i < length (sorted m) → (get_or (sorted m) i 0 < T) ↔ (suc i < length (sorted m))
  cut-more i a =
      let w = mem_index (sorted m) T 0 (((sorted-sorts m).members T).1 tin) in (
        (λ h. either w.0 i
            (λ k. absurd (either i w.0
            (λ n. let q : w.0 ≡ i = omega arith in omega (arith, w.2, ap (λ (z : ℕ). get_or (sorted m) z 0) q))
            (λ n. omega (arith, w.2, rising-index (sorted m) rises w.0 i n a))))
            (λ k. omega (arith, w.1))),
        λ h. let t = top (get_or (sorted m) (suc i) 0) (((sorted-sorts m).members (get_or (sorted m) (suc i) 0)).0 (index-mem (sorted m) (suc i) 0 h)) in
            omega (arith, rising-index (sorted m) rises i (suc i) (le_refl (suc i)) h),
      )
