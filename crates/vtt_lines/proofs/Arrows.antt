-- The string `-->` in a line, and in the lines of a block.
use Prim.Native.Nat.{ℕ, zero, suc, ◌+◌, ◌-◌, ◌<◌, ◌≤◌}
use mathlib.Core.Path.{◌≡◌, refl, sym, ap, ◌∙◌}
use mathlib.Core.Bool.{Bool, true, false}
use mathlib.Core.List.{List, [], ◌∷◌}
use native.Mathlib.Omega.{arith}
use native.Mathlib.Numerals.{add-one, add-two}
use borrow.Author.Tests.{eq-eqb, ne_eqb}
use lib.Dec.{eqb}
use lib.ListN.{length, take, drop, get_or, length-drop}
use lib.Seq.{drop-cons}
use Rattle.base.specs.Choice.{both, any_of}
use Rattle.base.proofs.Tests.{both-no, both_yes, one-of-no, one-of-yes}
use Rattle.utf8.specs.Strings.{DASH, GREATER, starts_with, starts_with_any, has_any}
use Rattle.utf8.specs.Forbidden.{arrow}
use Rattle.vtt_lines.specs.Lines.{Line, lines_of, filled, holds_arrow, some_arrow}
use Rattle.vtt_lines.specs.Cursor.{found_at, begins_filled}
use Rattle.vtt_lines.specs.declared.Line.{Line as Found}
use Rattle.vtt_lines.proofs.Blocks.{filled-found, filled-stop}

-- the three bytes of it
arrow-is : (s : List ℕ) (i : ℕ) → i + 2 < length s → starts_with arrow (drop i s) ≡ both (eqb (get_or s i 0) DASH) (both (eqb (get_or s (i + 1) 0) DASH) (eqb (get_or s (i + 2) 0) GREATER))
unfolding starts_with
arrow-is s i h =
    let a : i < length s = omega arith in
    let b : suc i < length s = omega arith in
    let c : suc (suc i) < length s = omega arith in
    rw (add-one, add-two, drop-cons s i 0 a, drop-cons s (suc i) 0 b, drop-cons s (suc (suc i)) 0 c, both_yes)

module _ (s : List ℕ) (i : ℕ) (h : i + 2 < length s) where
  -- they are looked at from the last on
  pub no-greater : (get_or s (i + 2) 0 ≡ GREATER → ⊥) → false ≡ starts_with arrow (drop i s)
  no-greater p = rw (arrow-is s i h, ne_eqb (get_or s (i + 2) 0) GREATER p, both-no, both-no)

  pub no-dash : (get_or s (i + 1) 0 ≡ DASH → ⊥) → false ≡ starts_with arrow (drop i s)
  no-dash p = rw (arrow-is s i h, ne_eqb (get_or s (i + 1) 0) DASH p, both-no)

  pub first-dash : get_or s (i + 2) 0 ≡ GREATER → get_or s (i + 1) 0 ≡ DASH → eqb (get_or s i 0) DASH ≡ starts_with arrow (drop i s)
  first-dash p q = rw (arrow-is s i h, eq-eqb (get_or s (i + 2) 0) GREATER p, eq-eqb (get_or s (i + 1) 0) DASH q, both_yes)

-- ---- from i on

module _ (s : List ℕ) (i : ℕ) where
  pub arrow-turn : i + 2 < length s → starts_with arrow (drop i s) ≡ false → holds_arrow (drop i s) ≡ holds_arrow (drop (i + 1) s)
  unfolding holds_arrow has_any starts_with_any
  arrow-turn h p =
      let a : i < length s = omega arith in
      let d = drop-cons s i 0 a in
      let q : starts_with arrow (get_or s i 0 ∷ drop (suc i) s) ≡ false = sym (ap (starts_with arrow) d) ∙ p in
      rw (add-one) (ap holds_arrow d ∙ rw q)

  pub arrow-found : i + 2 < length s → starts_with arrow (drop i s) ≡ true → holds_arrow (drop i s) ≡ true
  unfolding holds_arrow has_any starts_with_any
  arrow-found h p =
      let a : i < length s = omega arith in
      let d = drop-cons s i 0 a in
      let q : starts_with arrow (get_or s i 0 ∷ drop (suc i) s) ≡ true = sym (ap (starts_with arrow) d) ∙ p in
      ap holds_arrow d ∙ rw q

-- none in two bytes
short_none : (t : List ℕ) → length t ≤ 2 → holds_arrow t ≡ false
unfolding holds_arrow has_any starts_with_any starts_with
short_none [] h = refl
short_none (a ∷ []) h = simp both-no
short_none (a ∷ b ∷ []) h = simp both-no
short_none (a ∷ b ∷ c ∷ t) h = absurd (omega arith)

pub arrow-last : (s : List ℕ) (i : ℕ) → length s ≤ i + 2 → holds_arrow (drop i s) ≡ false
arrow-last s i h = short_none (drop i s) (omega (arith, length-drop i s))

-- ---- in the lines of a block, from the line at i on

arrow-line : (seen : Bool) (l : Line) (ls : List Line) → any_of (any_of seen (holds_arrow l)) (some_arrow ls) ≡ any_of seen (some_arrow (l ∷ ls))
unfolding some_arrow
arrow-line true l ls = refl
arrow-line false l ls = refl

module _ (s : List ℕ) (i : ℕ) (seen : Bool) where
  pub arrows-step : (l : Found) (number : ℕ) (after : Bool) → begins_filled (drop i s) ≡ true → l ≡ found_at s i number → after ≡ any_of seen (holds_arrow (take (l.end - i) (drop i s)))
      → any_of after (some_arrow (filled (lines_of (drop l.next s)))) ≡ any_of seen (some_arrow (filled (lines_of (drop i s))))
  arrows-step l number after h e a =
      let v = take (l.end - i) (drop i s) in
      let ls = filled (lines_of (drop l.next s)) in
      ap (λ (x : Bool). any_of x (some_arrow ls)) a ∙ arrow-line seen v ls ∙ ap (λ (x : List Line). any_of seen (some_arrow x)) (sym (filled-found s i l number h e).0)

  pub arrows-stop : begins_filled (drop i s) ≡ false → any_of seen (some_arrow (filled (lines_of (drop i s)))) ≡ seen
  unfolding some_arrow
  arrows-stop h = ap (λ (x : List Line). any_of seen (some_arrow x)) (filled-stop s i h).0 ∙ one-of-no seen

-- `-->` further down stands in the line
pub arrow-below : (s : List ℕ) (i : ℕ) → holds_arrow (drop i s) ≡ true → holds_arrow s ≡ true
unfolding holds_arrow has_any
arrow-below s zero h = h
arrow-below [] (suc i) h = h
arrow-below (b ∷ s) (suc i) h = rw (arrow-below s i h, one-of-yes)
