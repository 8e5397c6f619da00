-- The one rising list with the members of a list, and how long a rising list can be.
use Prim.Native.Nat.{◌+◌, ◌<◌, ◌≤◌, suc, ℕ}
use mathlib.Core.Path.{◌∙◌, ◌≡◌, ap₂, refl, subst, sym}
use mathlib.Core.Logic.{◌⊎◌, inl, inr}
use mathlib.Core.List.Memᴰ
use mathlib.Core.List.{List, Memᴰ, [], ◌∷◌}
use native.Mathlib.Omega.{arith}
use native.Mathlib.Nat.{le_refl}
use lib.Dec.{eqb, leb, ltb}
use lib.ListN.{length}
use borrow.Author.Tests.{eqb-false, eqb-true, le-leb, lt-leb, ltb-false, ltb-true}
use Rattle.base.proofs.Choice.{by-test, either}
use Rattle.base.specs.Choice.{pick}
use Rattle.timeline.specs.Packing.{Rising, Sorts, insert, sorted}

-- the three cases of insert
insert-cases : {X : Type 0} (n x : ℕ) (xs : List ℕ) → (n < x → insert n (x ∷ xs) ≡ n ∷ x ∷ xs → X) → (n ≡ x → insert n (x ∷ xs) ≡ x ∷ xs → X)
    → (x < n → insert n (x ∷ xs) ≡ x ∷ insert n xs → X) → X
unfolding insert
insert-cases n x xs f g h =
    by-test (ltb n x) (λ a. f (ltb-true n x a) (rw a))
    (λ a. by-test (eqb n x) (λ b. g (eqb-true n x b) (rw (a, b))) (λ b. h (above (ltb-false n x a) (eqb-false n x b)) (rw (a, b))))
  where
    above : x ≤ n → (n ≡ x → ⊥) → x < n
    above p q = either n x (λ k. absurd (q (omega arith))) (λ k. k)

abbrev In : ℕ → List ℕ → Type 0
In t l = Memᴰ t l

pub insert-in : (n : ℕ) (l : List ℕ) (t : ℕ) → Memᴰ t (insert n l) → (t ≡ n) ⊎ Memᴰ t l
unfolding insert
insert-in n [] t m = Memᴰ.cases_cons m
insert-in n (x ∷ xs) t m =
    insert-cases n x xs
    (λ a e. Memᴰ.cases_cons (subst (In t) e m))
    (λ a e. inr (subst (In t) e m))
    (λ a e. go (Memᴰ.cases_cons (subst (In t) e m)) (λ k. insert-in n xs t k))
  where
    go : (t ≡ x) ⊎ Memᴰ t (insert n xs) → (Memᴰ t (insert n xs) → (t ≡ n) ⊎ Memᴰ t xs) → (t ≡ n) ⊎ Memᴰ t (x ∷ xs)
    go (inl e) f = inr (Memᴰ.head e)
    go (inr k) f = elim (f k) [ inl e ↦ inl e | inr j ↦ inr (Memᴰ.tail j) ]

pub in_insert : (n : ℕ) (l : List ℕ) (t : ℕ) → (t ≡ n) ⊎ Memᴰ t l → Memᴰ t (insert n l)
unfolding insert
in_insert n [] t (inl e) = Memᴰ.head e
in_insert n [] t (inr m) = absurd (Memᴰ.not-nil m)
in_insert n (x ∷ xs) t (inl q) =
    insert-cases n x xs
    (λ a e. subst (In t) (sym e) (Memᴰ.head q))
    (λ a e. subst (In t) (sym e) (Memᴰ.head (q ∙ a)))
    (λ a e. subst (In t) (sym e) (Memᴰ.tail (in_insert n xs t (inl q))))
in_insert n (x ∷ xs) t (inr m) =
    insert-cases n x xs
    (λ a e. subst (In t) (sym e) (Memᴰ.tail m))
    (λ a e. subst (In t) (sym e) m)
    (λ a e. subst (In t) (sym e) (elim (Memᴰ.cases_cons m) [ inl q ↦ Memᴰ.head q | inr k ↦ Memᴰ.tail (in_insert n xs t (inr k)) ]))

pub insert-rising : (n : ℕ) (l : List ℕ) → Rising l → Rising (insert n l)
unfolding Rising insert
insert-rising n [] r = ((λ y m. absurd (Memᴰ.not-nil m)), tt)
insert-rising n (x ∷ xs) r =
    insert-cases n x xs
    (λ a e. subst Rising (sym e) ((λ y m. elim (Memᴰ.cases_cons m) [ inl q ↦ omega arith | inr k ↦ omega (arith, r.0 y k) ]), r))
    (λ a e. subst Rising (sym e) r)
    (λ a e. subst Rising (sym e) ((λ y m. elim (insert-in n xs y m) [ inl q ↦ omega arith | inr k ↦ r.0 y k ]), insert-rising n xs r.1))

sorted-rising : (m : List ℕ) → Rising (sorted m)
unfolding sorted Rising
sorted-rising [] = tt
sorted-rising (x ∷ xs) = insert-rising x (sorted xs) (sorted-rising xs)

sorted-in : (m : List ℕ) (t : ℕ) → Memᴰ t (sorted m) → Memᴰ t m
unfolding sorted
sorted-in [] t k = k
sorted-in (x ∷ xs) t k = elim (insert-in x (sorted xs) t k) [ inl e ↦ Memᴰ.head e | inr j ↦ Memᴰ.tail (sorted-in xs t j) ]

in-sorted : (m : List ℕ) (t : ℕ) → Memᴰ t m → Memᴰ t (sorted m)
unfolding sorted
in-sorted [] t k = k
in-sorted (x ∷ xs) t k = in_insert x (sorted xs) t (elim (Memᴰ.cases_cons k) [ inl e ↦ inl e | inr j ↦ inr (in-sorted xs t j) ])

pub sorted-sorts : (m : List ℕ) → Sorts (sorted m) m
sorted-sorts m = record { rising = sorted-rising m; members = λ t. ((λ k. sorted-in m t k), λ k. in-sorted m t k) }

-- rising lists with the same members are the same
one_list : (a b : List ℕ) → Rising a → Rising b → ((t : ℕ) → Memᴰ t a → Memᴰ t b) → ((t : ℕ) → Memᴰ t b → Memᴰ t a) → a ≡ b
unfolding Rising
one_list [] [] r s f g = refl
one_list [] (y ∷ ys) r s f g = absurd (Memᴰ.not-nil (g y (Memᴰ.head refl)))
one_list (x ∷ xs) [] r s f g = absurd (Memᴰ.not-nil (f x (Memᴰ.head refl)))
one_list (x ∷ xs) (y ∷ ys) r s f g =
    ap₂ ◌∷◌ first (one_list xs ys r.1 s.1 (λ t m. onto t m (Memᴰ.cases_cons (f t (Memᴰ.tail m)))) (λ t m. back t m (Memᴰ.cases_cons (g t (Memᴰ.tail m)))))
  where
    meet : (x ≡ y) ⊎ Memᴰ x ys → (y ≡ x) ⊎ Memᴰ y xs → x ≡ y
    meet (inl p) q = p
    meet (inr p) (inl q) = sym q
    meet (inr p) (inr q) = absurd (omega (arith, s.0 x p, r.0 y q))

    first : x ≡ y
    first = meet (Memᴰ.cases_cons (f x (Memᴰ.head refl))) (Memᴰ.cases_cons (g y (Memᴰ.head refl)))

    onto : (t : ℕ) → Memᴰ t xs → (t ≡ y) ⊎ Memᴰ t ys → Memᴰ t ys
    onto t m (inl p) = absurd (omega (arith, r.0 t m, first))
    onto t m (inr p) = p

    back : (t : ℕ) → Memᴰ t ys → (t ≡ x) ⊎ Memᴰ t xs → Memᴰ t xs
    back t m (inl p) = absurd (omega (arith, s.0 t m, first))
    back t m (inr p) = p

pub sorted-only : (l m : List ℕ) → Sorts l m → l ≡ sorted m
sorted-only l m s =
    one_list l (sorted m) s.rising (sorted-rising m) (λ t k. in-sorted m t ((s.members t).0 k)) (λ t k. (s.members t).1 (sorted-in m t k))

-- how many numbers of a list are at least b
unfoldable above : ℕ → List ℕ → ℕ
above b [] = 0
above b (x ∷ xs) = pick (leb b x) 1 0 + above b xs

above-le : (b : ℕ) (m : List ℕ) → above b m ≤ length m
unfolding above
above-le b [] = le_refl 0
above-le b (x ∷ xs) = by-test (leb b x) (λ e. rw e (omega (arith, above-le b xs))) (λ e. rw e (omega (arith, above-le b xs)))

above_down : (a b : ℕ) (m : List ℕ) → a < b → above b m ≤ above a m
unfolding above
above_down a b [] l = le_refl 0
above_down a b (x ∷ xs) l =
    either b x
    (λ h. let k : a ≤ x = omega arith in rw (le-leb b x h, le-leb a x k) (omega (arith, above_down a b xs l)))
    (λ h. rw (lt-leb b x h) (omega (arith, above_down a b xs l)))

above-less : (a b : ℕ) (m : List ℕ) → a < b → Memᴰ a m → suc (above b m) ≤ above a m
unfolding above
above-less a b [] l k = absurd (Memᴰ.not-nil k)
above-less a b (x ∷ xs) l k = go (Memᴰ.cases_cons k) (λ j. above-less a b xs l j)
  where
    go : (a ≡ x) ⊎ Memᴰ a xs → (Memᴰ a xs → suc (above b xs) ≤ above a xs) → suc (pick (leb b x) 1 0 + above b xs) ≤ pick (leb a x) 1 0 + above a xs
    go (inl e) f = let p : x < b = omega arith in let q : a ≤ x = omega arith in rw (lt-leb b x p, le-leb a x q) (omega (arith, above_down a b xs l))
    go (inr j) f =
        either b x
        (λ h. let i : a ≤ x = omega arith in rw (le-leb b x h, le-leb a x i) (omega (arith, f j)))
        (λ h. rw (lt-leb b x h) (omega (arith, f j)))

many : (x : ℕ) (xs m : List ℕ) → Rising (x ∷ xs) → ((t : ℕ) → Memᴰ t (x ∷ xs) → Memᴰ t m) → suc (length xs) ≤ above x m
unfolding Rising above
many x [] m r f = omega (arith, above-less x (suc x) m (le_refl (suc x)) (f x (Memᴰ.head refl)))
many x (y ∷ ys) m r f =
    omega (arith, many y ys m r.1 (λ t k. f t (Memᴰ.tail k)), above-less x y m (r.0 y (Memᴰ.head refl)) (f x (Memᴰ.head refl)))

-- a rising list is no longer than a list that has all its members
pub no_longer : (l m : List ℕ) → Rising l → ((t : ℕ) → Memᴰ t l → Memᴰ t m) → length l ≤ length m
no_longer [] m r f = omega arith
no_longer (x ∷ xs) m r f = omega (arith, many x xs m r f, above-le x m)
