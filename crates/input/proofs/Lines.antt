-- Two numbers are a line, and no other bytes are.
use Prim.Native.Nat.{ℕ, ◌≤◌}
use mathlib.Core.Path.{◌≡◌, refl, sym, ap}
use mathlib.Core.Bool.{Bool, true, false}
use mathlib.Core.List.{List, [], ◌∷◌, ◌++◌}
use native.Mathlib.Omega.{arith}
use lib.Dec.{leb, eqb}
use borrow.Author.Tests.{eq-eqb, ne_eqb, leb-true}
use Rattle.base.specs.Choice.{pick, both, within, same_list}
use Rattle.base.proofs.Choice.{both_left, both_right, true-false, same-list, list_same}
use Rattle.decimal.specs.Decimal.{value}
use Rattle.input.specs.Line.{Line, Numbers, Bad, is_digit, top, before, behind, all_digits, number, written, line_of, LineNumbers, LineWritten}

digits-all : (s : List ℕ) → number s ≡ true → all_digits s ≡ true
digits-all [] h = true-false false h refl
digits-all (b ∷ s) h = h

-- a digit is neither the space nor the line feed
pub apart : (b c : ℕ) → is_digit b ≡ true → c ≤ 32 → eqb b c ≡ false
unfolding is_digit within
apart b c d h = let l = leb-true 48 b (both_left (leb 48 b) (leb b 57) d) in ne_eqb b c (λ e. omega arith)

before-digits : (c : ℕ) (a r : List ℕ) → c ≤ 32 → all_digits a ≡ true → before c (a ++ c ∷ r) ≡ a
unfolding before all_digits
before-digits c [] r h d = rw (eq-eqb c c refl)
before-digits c (b ∷ a) r h d =
    let e = apart b c (both_left (is_digit b) (all_digits a) d) h in
    rw e (ap (λ (x : List ℕ). b ∷ x) (before-digits c a r h (both_right (is_digit b) (all_digits a) d)))

behind-digits : (c : ℕ) (a r : List ℕ) → c ≤ 32 → all_digits a ≡ true → behind c (a ++ c ∷ r) ≡ r
unfolding behind all_digits
behind-digits c [] r h d = rw (eq-eqb c c refl)
behind-digits c (b ∷ a) r h d =
    let e = apart b c (both_left (is_digit b) (all_digits a) d) h in
    rw e (behind-digits c a r h (both_right (is_digit b) (all_digits a) d))

pub line-numbers : LineNumbers
unfolding line_of written
line-numbers a b h k =
    let x : before 32 (written a b) ≡ a = before-digits 32 a (b ++ 10 ∷ []) (omega arith) (digits-all a h) in
    let y : behind 32 (written a b) ≡ b ++ 10 ∷ [] = behind-digits 32 a (b ++ 10 ∷ []) (omega arith) (digits-all a h) in
    let z : before 10 (b ++ 10 ∷ []) ≡ b = before-digits 10 b [] (omega arith) (digits-all b k) in
    rw (x, y, z, list_same (written a b), h, k)

-- lines that are the same have the same numbers
abbrev first_of : Line → ℕ
first_of (Numbers n m) = n
first_of Bad = 0

abbrev second_of : Line → ℕ
second_of (Numbers n m) = m
second_of Bad = 0

same_numbers : {n m x y : ℕ} → Numbers n m ≡ Numbers x y → (n ≡ x) × (m ≡ y)
same_numbers e = (ap first_of e, ap second_of e)

pub line-written : LineWritten
unfolding line_of
line-written s x y e =
    let a = before 32 s in
    let b = before 10 (behind 32 s) in
    go (same_list s (written a b)) (both (number a) (number b)) refl refl e
  where
    go : (p q : Bool) → same_list s (written (before 32 s) (before 10 (behind 32 s))) ≡ p → both (number (before 32 s)) (number (before 10 (behind 32 s))) ≡ q
        → pick (both p q) (Numbers (top (value (before 32 s))) (top (value (before 10 (behind 32 s))))) Bad ≡ Numbers x y
        → (a : List ℕ) × (b : List ℕ) × (s ≡ written a b) × (number a ≡ true) × (number b ≡ true) × (x ≡ top (value a)) × (y ≡ top (value b))
    go true true f g e =
        let a = before 32 s in
        let b = before 10 (behind 32 s) in
        let w = same_numbers e in
        (a, b, same-list s (written a b) f, both_left (number a) (number b) g, both_right (number a) (number b) g, sym w.0, sym w.1)
    go true false f g e = let z : ◌≡◌ {A = ℕ} 0 1 = cc in absurd (omega arith)
    go false true f g e = let z : ◌≡◌ {A = ℕ} 0 1 = cc in absurd (omega arith)
    go false false f g e = let z : ◌≡◌ {A = ℕ} 0 1 = cc in absurd (omega arith)
