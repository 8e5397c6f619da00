-- The cuts by searching: from each begin the nearest later cut. The same cuts as sorting gives.
use Prim.Native.Nat.{◌<◌, ◌≤◌, min, suc, zero, ℕ}
use mathlib.Core.Path.{◌∙◌, ◌≡◌, ap, refl, sym}
use mathlib.Core.Logic.{◌⊎◌, inl, inr}
use mathlib.Core.List.{List, Memᴰ, [], ◌++◌, ◌∷◌}
use native.Mathlib.Omega.{arith}
use lib.Dec.{ltb}
use lib.ListN.{length}
use borrow.Author.Tests.{le-ltb, lt-ltb, ltb-true}
use Rattle.base.proofs.Choice.{by-test}
use Rattle.base.specs.Choice.{pick}
use Rattle.timeline.specs.Cues.{Cue, Proper}
use Rattle.timeline.specs.Packing.{Rising, Sorts, marks, sorted}
use Rattle.timeline.specs.Nearest.{nearest}
use Rattle.timeline.proofs.Sorting.{sorted-sorts}
use Rattle.timeline.proofs.Packed.{marks-le}

-- b and the cuts after it, each the nearest
unfoldable pub cuts_by : ℕ → List ℕ → ℕ → ℕ → List ℕ
unfolding nearest
cuts_by T m zero b = b ∷ []
cuts_by T m (suc f) b = b ∷ pick (ltb b T) (cuts_by T m f (nearest T b m)) []

pub nearest-top : (T b : ℕ) (m : List ℕ) → nearest T b m ≤ T
unfolding nearest
nearest-top T b [] = omega arith
nearest-top T b (x ∷ xs) = by-test (ltb b x) (λ h. rw h (omega (arith, nearest-top T b xs))) (λ h. rw h (nearest-top T b xs))

pub nearest-append : (T b : ℕ) (p q : List ℕ) → nearest T b (p ++ q) ≡ min (nearest T b p) (nearest T b q)
unfolding nearest
nearest-append T b [] q = omega (arith, nearest-top T b q)
nearest-append T b (x ∷ p) q =
    by-test (ltb b x)
    (λ h. rw h (omega (arith, nearest-append T b p q)))
    (λ h. rw h (nearest-append T b p q))

pub nearest-ge : (T b e : ℕ) (m : List ℕ) → e ≤ T → ((x : ℕ) → Memᴰ x m → b < x → e ≤ x) → e ≤ nearest T b m
unfolding nearest
nearest-ge T b e [] top all = top
nearest-ge T b e (x ∷ xs) top all =
    let r = nearest-ge T b e xs top (λ y k l. all y (mathlib.Core.List.Memᴰ.tail k) l) in
    by-test (ltb b x) (λ h. rw h (omega (arith, all x (mathlib.Core.List.Memᴰ.head refl) (ltb-true b x h)))) (λ h. rw h r)

pub nearest-le : (T b e : ℕ) (m : List ℕ) → Memᴰ e m → b < e → nearest T b m ≤ e
unfolding nearest
nearest-le T b e [] k l = absurd (mathlib.Core.List.Memᴰ.not-nil k)
nearest-le T b e (x ∷ xs) k l = go (mathlib.Core.List.Memᴰ.cases_cons k) (λ j. nearest-le T b e xs j l)
  where
    go : (e ≡ x) ⊎ Memᴰ e xs → (Memᴰ e xs → nearest T b xs ≤ e) → pick (ltb b x) (min x (nearest T b xs)) (nearest T b xs) ≤ e
    go (inl q) f = let h : b < x = omega arith in rw (lt-ltb b x h) (omega arith)
    go (inr j) f = by-test (ltb b x) (λ h. rw h (omega (arith, f j))) (λ h. rw h (f j))

module _ (T : ℕ) (m : List ℕ) (tin : Memᴰ T m) (top : (t : ℕ) → Memᴰ t m → t ≤ T) where
  by : (f b : ℕ) (r : List ℕ) → length r ≤ f → Rising (b ∷ r) → ((t : ℕ) → Memᴰ t (b ∷ r) → Memᴰ t m) → ((t : ℕ) → Memᴰ t m → b ≤ t → Memᴰ t (b ∷ r))
      → cuts_by T m f b ≡ b ∷ r
  unfolding cuts_by Rising
  by zero b [] l r into all = refl
  by zero b (e ∷ r) l rise into all = absurd (omega arith)
  by (suc f) b [] l rise into all =
      let k : T ≤ b = elim (mathlib.Core.List.Memᴰ.cases_cons (all T tin (top b (into b (mathlib.Core.List.Memᴰ.head refl))))) [ inl q ↦ omega arith | inr j ↦ absurd (mathlib.Core.List.Memᴰ.not-nil j) ] in
      rw (le-ltb b T k)
  by (suc f) b (e ∷ r) l rise into all =
      let here : Memᴰ e m = into e (mathlib.Core.List.Memᴰ.tail (mathlib.Core.List.Memᴰ.head refl)) in
      let g : b < e = rise.0 e (mathlib.Core.List.Memᴰ.head refl) in
      let lo = nearest-ge T b e m (top e here) (λ x k h. least x (mathlib.Core.List.Memᴰ.cases_cons (all x k (omega arith))) h) in
      let n : nearest T b m ≡ e = omega (arith, lo, nearest-le T b e m here g) in
      let h : b < T = omega (arith, top e here) in
      rw (lt-ltb b T h, n, by f e r (omega arith) rise.1 (λ t k. into t (mathlib.Core.List.Memᴰ.tail k)) (λ t k j. later t (mathlib.Core.List.Memᴰ.cases_cons (all t k (omega arith))) (omega arith)))
    where
      first : (x : ℕ) → (x ≡ e) ⊎ Memᴰ x r → e ≤ x
      first x (inl q) = omega arith
      first x (inr k) = omega (arith, rise.1.0 x k)

      least : (x : ℕ) → (x ≡ b) ⊎ Memᴰ x (e ∷ r) → b < x → e ≤ x
      least x (inl q) h = absurd (omega arith)
      least x (inr k) h = first x (mathlib.Core.List.Memᴰ.cases_cons k)

      later : (x : ℕ) → (x ≡ b) ⊎ Memᴰ x (e ∷ r) → b < x → Memᴰ x (e ∷ r)
      later x (inl q) h = absurd (omega arith)
      later x (inr k) h = k

  -- sorting and searching give the same cuts
  pub by-search : Memᴰ 0 m → (f : ℕ) → length (sorted m) ≤ f → cuts_by T m f 0 ≡ sorted m
  unfolding Rising
  by-search zin f = go (sorted m) (sorted-sorts m)
    where
      start : (x : ℕ) (r : List ℕ) → Sorts (x ∷ r) m → (0 ≡ x) ⊎ Memᴰ 0 r → x ≡ 0
      start x r s (inl q) = sym q
      start x r s (inr k) = absurd (omega (arith, s.rising.0 0 k))

      go : (l : List ℕ) → Sorts l m → length l ≤ f → cuts_by T m f 0 ≡ l
      go [] s h = absurd (mathlib.Core.List.Memᴰ.not-nil ((s.members 0).1 zin))
      go (x ∷ r) s h =
          let z : x ≡ 0 = start x r s (mathlib.Core.List.Memᴰ.cases_cons ((s.members 0).1 zin)) in
          ap (λ (y : ℕ). cuts_by T m f y) (sym z) ∙ by f x r (omega arith) s.rising (λ t k. (s.members t).0 k) (λ t k j. (s.members t).1 k)

-- the cuts of packing, found one after the other
pub cuts-by-search : (cues : List Cue) (T : ℕ) → Proper cues T → (f : ℕ) → length (sorted (marks cues T)) ≤ f → cuts_by T (marks cues T) f 0 ≡ sorted (marks cues T)
unfolding marks
cuts-by-search cues T ok f h = by-search T (marks cues T) (mathlib.Core.List.Memᴰ.tail (mathlib.Core.List.Memᴰ.head refl)) (marks-le cues T ok) (mathlib.Core.List.Memᴰ.head refl) f h
