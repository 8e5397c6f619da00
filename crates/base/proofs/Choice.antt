-- Laws of choices by a test, and case analysis on tests and on orders.
use Prim.Native.Nat.{ℕ, ◌*◌, ◌<◌, ◌≤◌}
use mathlib.Core.Path.{◌≡◌, refl, sym, ap, ◌∙◌}
use mathlib.Core.Logic.{◌⊎◌, inl, inr}
use mathlib.Core.Bool.{Bool, true, false}
use mathlib.Core.List.{List, [], ◌∷◌}
use native.Mathlib.Omega.{arith}
use native.Mathlib.Nat.{lt_of_not-le, mul-le-mul}
use native.Mathlib.Decide.{dec_le}
use lib.Dec.{eqb}
use borrow.Author.Tests.{eqb-true, eqb-false}
use Rattle.base.specs.Choice.{pick, both, same_list}

pub both_left : (a b : Bool) → both a b ≡ true → a ≡ true
both_left true b h = refl
both_left false b h = h

pub both_right : (a b : Bool) → both a b ≡ true → b ≡ true
both_right true b h = h
both_right false b h = absurd (omega (arith, ap (λ (x : Bool). pick {A = ℕ} x 1 0) h))

pub both_false : (a b : Bool) → both a b ≡ false → (a ≡ false) ⊎ (b ≡ false)
both_false true b h = inr h
both_false false b h = inl refl

pub true-false : {X : Type 0} (b : Bool) → b ≡ true → b ≡ false → X
true-false b h k = absurd (omega (arith, ap (λ (x : Bool). pick {A = ℕ} x 1 0) (sym h ∙ k)))

-- either order of two numbers, with its proof
pub either : {X : Type 0} (a b : ℕ) → (a ≤ b → X) → (b < a → X) → X
either a b f g = elim (dec_le a b) [ yes h ↦ f h | no h ↦ g (lt_of_not-le h) ]

-- either outcome of a test, with its equation
pub by-test : {X : Type 0} (b : Bool) → (b ≡ true → X) → (b ≡ false → X) → X
by-test true f g = f refl
by-test false f g = g refl

pub same-list : (a b : List ℕ) → same_list a b ≡ true → a ≡ b
unfolding same_list
same-list [] [] h = refl
same-list [] (y ∷ ys) h = true-false false h refl
same-list (x ∷ xs) [] h = true-false false h refl
same-list (x ∷ xs) (y ∷ ys) h =
    let p = eqb-true x y (both_left (eqb x y) (same_list xs ys) h) in
    let q = same-list xs ys (both_right (eqb x y) (same_list xs ys) h) in
    rw (p, q)

pub list_same : (a : List ℕ) → same_list a a ≡ true
unfolding same_list
list_same [] = refl
list_same (x ∷ xs) = by-test (eqb x x) (λ e. rw e (list_same xs)) (λ e. absurd (eqb-false x x e refl))

-- a bound of a product, which omega takes as an unknown
pub product : (a b A B : ℕ) → a ≤ A → b ≤ B → a * b ≤ A * B
product a b A B h k = mul-le-mul h k
