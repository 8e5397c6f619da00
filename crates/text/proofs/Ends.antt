-- The beginning and the end of a text.
use Prim.Native.Nat.{ℕ, suc, ◌+◌, ◌-◌, ◌<◌, ◌≤◌}
use mathlib.Core.Path.{◌≡◌, refl, ap₂}
use mathlib.Core.Bool.{Bool, false}
use mathlib.Core.List.{List, [], ◌∷◌}
use native.Mathlib.Omega.{arith}
use native.Mathlib.Nat.{not-suc-le-zero}
use native.Mathlib.Numerals.{add-one}
use borrow.Author.Tests.{eq-eqb, ne_eqb}
use lib.Dec.{eqb}
use lib.ListN.{length, get_or, drop, drop_of_length-le}
use lib.Seq.{drop-cons}
use Rattle.base.specs.Choice.{pick, any_of}
use Rattle.base.proofs.Tests.{both_yes}
use Rattle.utf8.specs.Strings.{CR, LF, agree, ends_in, begins_line, ends_line}

-- the byte is CR or LF
abbrev line_end : ℕ → Bool
line_end b = any_of (eqb b CR) (eqb b LF)

pub no_line : (s : List ℕ) → length s ≡ 0 → (begins_line s ≡ false) × (ends_line s ≡ false)
unfolding begins_line ends_line
no_line [] h = (refl, refl)
no_line (b ∷ s) h = absurd (omega arith)

pub first_line : (s : List ℕ) → 0 < length s → begins_line s ≡ line_end (get_or s 0 0)
unfolding begins_line
first_line [] h = absurd (not-suc-le-zero h)
first_line (b ∷ s) h = simp both_yes

ends_last : (x b : ℕ) (s : List ℕ) → ends_in x (b ∷ s) ≡ eqb (get_or (b ∷ s) (length s) 0) x
unfolding ends_in
ends_last x b [] = refl
ends_last x b (c ∷ s) = ends_last x c s

pub last_line : (s : List ℕ) → 0 < length s → ends_line s ≡ line_end (get_or s (length s - 1) 0)
unfolding ends_line
last_line [] h = absurd (not-suc-le-zero h)
last_line (b ∷ s) h =
    let e : length (b ∷ s) - 1 ≡ length s = omega arith in
    rw e (ap₂ any_of (ends_last CR b s) (ends_last LF b s))

-- what is in common from place i on
module _ (p s : List ℕ) (i A : ℕ) (g : i + agree (drop i p) (drop i s) ≡ A) where
  pub agree-turn : i < length p → i < length s → get_or s i 0 ≡ get_or p i 0 → i + 1 + agree (drop (i + 1) p) (drop (i + 1) s) ≡ A
  unfolding agree
  agree-turn h k e =
      let r : i + pick (eqb (get_or s i 0) (get_or p i 0)) (suc (agree (drop (suc i) p) (drop (suc i) s))) 0 ≡ A = rw (drop-cons p i 0 h, drop-cons s i 0 k) at g in
      let t : i + suc (agree (drop (suc i) p) (drop (suc i) s)) ≡ A = rw (eq-eqb (get_or s i 0) (get_or p i 0) e) at r in
      rw (add-one i) (omega arith)

  pub agree-stop : i < length p → i < length s → (get_or s i 0 ≡ get_or p i 0 → ⊥) → i ≡ A
  unfolding agree
  agree-stop h k e =
      let r : i + pick (eqb (get_or s i 0) (get_or p i 0)) (suc (agree (drop (suc i) p) (drop (suc i) s))) 0 ≡ A = rw (drop-cons p i 0 h, drop-cons s i 0 k) at g in
      let t : i + 0 ≡ A = rw (ne_eqb (get_or s i 0) (get_or p i 0) e) at r in
      omega arith

  pub agree-short : i < length p → length s ≤ i → i ≡ A
  unfolding agree
  agree-short h k = let r : i + 0 ≡ A = rw (drop-cons p i 0 h, drop_of_length-le s k) at g in omega arith

  pub agree-end : length p ≤ i → i ≡ A
  unfolding agree
  agree-end h = let r : i + 0 ≡ A = rw (drop_of_length-le p h) at g in omega arith
