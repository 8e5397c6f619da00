-- Counting characters from a place on.
use Prim.Native.Nat.{ℕ, suc, ◌+◌, ◌<◌, ◌≤◌}
use mathlib.Core.Path.{◌≡◌, refl, ap, ◌∙◌}
use mathlib.Core.Bool.{true, false}
use mathlib.Core.List.{List, [], ◌∷◌}
use native.Mathlib.Omega.{arith}
use native.Mathlib.Numerals.{add-one, add-two}
use lib.Dec.{eqb}
use lib.ListN.{length, get_or, drop, drop_of_length-le}
use lib.Seq.{drop-cons}
use Rattle.base.specs.Choice.{pick}
use Rattle.base.proofs.Choice.{both_right, true-false}
use Rattle.viable.specs.Judged.{Judged, Right, Bad as BadAt}
use Rattle.viable.specs.FirstBad.{judged_by}
use Rattle.viable.proofs.FirstBad.{judged-right, when-right}
use Rattle.utf8.specs.Strings.{starts_with}
use Rattle.characters.specs.Characters.{is_tail, firsts, is_low, first_units, mark, tx3g_text, tx3g_begun, character_count, count_by, characters_of}
use Rattle.characters.specs.Counted.{Characters, Bad}

pub firsts_at : (s : List ℕ) (i : ℕ) → i < length s → firsts (drop i s) ≡ pick (is_tail (get_or s i 0)) 0 1 + firsts (drop (i + 1) s)
unfolding firsts
firsts_at s i h = rw (add-one, drop-cons s i 0)

pub firsts-end : (s : List ℕ) (i : ℕ) → length s ≤ i → firsts (drop i s) ≡ 0
unfolding firsts
firsts-end s i h = rw (drop_of_length-le s h)

-- a unit of two bytes
pub unit-at : (s : List ℕ) (i : ℕ) → i + 1 < length s → drop i s ≡ get_or s i 0 ∷ get_or s (i + 1) 0 ∷ drop (i + 2) s
unit-at s i h = rw (add-one, add-two) (drop-cons s i 0 (omega arith) ∙ ap (λ (l : List ℕ). get_or s i 0 ∷ l) (drop-cons s (suc i) 0 (omega arith)))

pub units-at : (s : List ℕ) (i : ℕ) → i + 1 < length s → first_units (drop i s) ≡ pick (is_low (get_or s i 0)) 0 1 + first_units (drop (i + 2) s)
unfolding first_units
units-at s i h = rw (unit-at s i h)

pub units-end : (s : List ℕ) (i : ℕ) → length s ≤ i → first_units (drop i s) ≡ 0
unfolding first_units
units-end s i h = rw (drop_of_length-le s h)

-- the mark is two bytes
pub mark-length : (s : List ℕ) → starts_with mark s ≡ true → 2 ≤ length s
unfolding starts_with mark
mark-length [] h = true-false false h refl
mark-length (a ∷ []) h = true-false false (both_right (eqb a 0xFE) false h) refl
mark-length (a ∷ b ∷ s) h = omega arith

-- the answer, from the judgement and the count
pub count-bad : (s : List ℕ) (q : ℕ) → BadAt q ≡ judged_by tx3g_text tx3g_begun s → Bad q ≡ characters_of s
unfolding characters_of
count-bad s q e = ap (λ (j : Judged). count_by j (character_count s)) e

pub count-right : (s : List ℕ) (n : ℕ) → Right ≡ judged_by tx3g_text tx3g_begun s → n ≡ character_count s → Characters n ≡ characters_of s
unfolding characters_of
count-right s n e q = ap Characters q ∙ ap (λ (j : Judged). count_by j (character_count s)) e

pub right-counted : (s : List ℕ) (n : ℕ) → tx3g_text s ≡ true → n ≡ character_count s → Characters n ≡ characters_of s
right-counted s n h e = count-right s n (judged-right tx3g_text tx3g_begun s h) e

-- what is counted is a text
counted-right : (j : Judged) (m n : ℕ) → count_by j m ≡ Characters n → j ≡ Right
counted-right Right m n e = refl
counted-right (BadAt q) m n e = let z : ◌≡◌ {A = ℕ} 0 1 = cc in absurd (omega arith)

pub counted-text : (s : List ℕ) (n : ℕ) → characters_of s ≡ Characters n → tx3g_text s ≡ true
unfolding characters_of
counted-text s n e = when-right tx3g_text tx3g_begun s (counted-right (judged_by tx3g_text tx3g_begun s) (character_count s) n e)

-- the count after the mark, and without it
pub count-units : (s : List ℕ) → starts_with mark s ≡ true → first_units (drop 2 s) ≡ character_count s
unfolding character_count
count-units s h = rw h

pub count-firsts : (s : List ℕ) → starts_with mark s ≡ false → firsts s ≡ character_count s
unfolding character_count
count-firsts s h = rw h
