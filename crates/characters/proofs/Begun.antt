-- The beginnings of 3GPP texts.
use Prim.Native.Nat.{ℕ}
use mathlib.Core.Path.{◌≡◌, refl, sym, ap, ◌∙◌}
use mathlib.Core.Bool.{Bool, true, false}
use mathlib.Core.List.{List, [], ◌∷◌, ◌++◌}
use lib.ListN.{drop}
use Rattle.base.specs.Choice.{any_of, within}
use Rattle.base.proofs.Choice.{both_left, both_right, by-test, true-false}
use Rattle.utf8.specs.Utf8.{utf8, utf8_begun}
use Rattle.utf8.specs.Strings.{starts_with}
use Rattle.utf8.proofs.Strings.{split}
use Rattle.utf8.proofs.Begun.{both-pass, utf8-begins, utf8-begun}
use Rattle.text.proofs.Begun.{one-begins}
use Rattle.characters.specs.Characters.{is_high, is_low, same_test, utf16, utf16_begun, mark, tx3g_text, tx3g_begun}
use Rattle.viable.specs.FirstBad.{bytes, Continues, Passes}
use Rattle.viable.proofs.FirstBad.{Beginnings, bytes-behind}

-- the low surrogate that is due
due-ends : (due : Bool) → (c : List ℕ) × (bytes c ≡ true) × (utf16 due c ≡ true)
unfolding utf16 is_high is_low within bytes
due-ends true = (0xDC ∷ 0x00 ∷ [], refl, refl)
due-ends false = ([], refl, refl)

units-end : (s : List ℕ) (due : Bool) → utf16_begun due s ≡ true → (c : List ℕ) × (bytes c ≡ true) × (utf16 due (s ++ c) ≡ true)
unfolding utf16 utf16_begun bytes
units-end [] due h = due-ends due
units-end (x ∷ []) due h = let t = due-ends (is_high x) in (0x00 ∷ t.0, t.1, both-pass (same_test (is_low x) due) (utf16 (is_high x) t.0) h t.2)
units-end (x ∷ y ∷ s) due h =
    let t = units-end s (is_high x) (both_right (same_test (is_low x) due) (utf16_begun (is_high x) s) h) in
    (t.0, t.1, both-pass (same_test (is_low x) due) (utf16 (is_high x) (s ++ t.0)) (both_left (same_test (is_low x) due) (utf16_begun (is_high x) s) h) t.2)

units-begin : (s c : List ℕ) (due : Bool) → utf16 due (s ++ c) ≡ true → utf16_begun due s ≡ true
unfolding utf16 utf16_begun
units-begin [] c due h = refl
units-begin (x ∷ []) [] due h = true-false false h refl
units-begin (x ∷ []) (y ∷ c) due h = both_left (same_test (is_low x) due) (utf16 (is_high x) c) h
units-begin (x ∷ y ∷ s) c due h =
    both-pass (same_test (is_low x) due) (utf16_begun (is_high x) s) (both_left (same_test (is_low x) due) (utf16 (is_high x) (s ++ c)) h)
    (units-begin s c (is_high x) (both_right (same_test (is_low x) due) (utf16 (is_high x) (s ++ c)) h))

mark-itself : tx3g_text mark ≡ true
unfolding tx3g_text mark starts_with utf16
mark-itself = refl

mark-bytes : bytes mark ≡ true
unfolding mark bytes
mark-bytes = refl

-- after the mark
mark_on : (r : List ℕ) → utf16_begun false r ≡ true → Continues (Passes tx3g_text) (mark ++ r)
unfolding tx3g_text mark starts_with
mark_on r h = units-end r false h

mark-back : (r c : List ℕ) → tx3g_text (mark ++ r ++ c) ≡ true → utf16_begun false r ≡ true
unfolding tx3g_text mark starts_with
mark-back r c h = units-begin r c false h

-- other bytes than the mark
other : (p c : List ℕ) → starts_with p mark ≡ false → starts_with mark p ≡ false → starts_with mark (p ++ c) ≡ false
other p c e f =
    by-test (starts_with mark (p ++ c))
    (λ t. let z : any_of (starts_with p mark) (starts_with mark p) ≡ false = rw (e, f) in true-false (any_of (starts_with p mark) (starts_with mark p)) (one-begins mark p c t) z)
    (λ t. t)

begun-mark : (p : List ℕ) → starts_with p mark ≡ true → tx3g_begun p ≡ true
unfolding tx3g_begun
begun-mark p e = rw e

begun-after : (r : List ℕ) → starts_with (mark ++ r) mark ≡ false → tx3g_begun (mark ++ r) ≡ utf16_begun false r
unfolding tx3g_begun mark starts_with
begun-after r e = rw e

begun-other : (p : List ℕ) → starts_with p mark ≡ false → starts_with mark p ≡ false → tx3g_begun p ≡ utf8_begun p
unfolding tx3g_begun
begun-other p e f = rw (e, f)

-- the rule, by whether the mark stands in front
pub text-marked : (s : List ℕ) → starts_with mark s ≡ true → tx3g_text s ≡ utf16 false (drop 2 s)
unfolding tx3g_text
text-marked s e = rw e

pub text-other : (s : List ℕ) → starts_with mark s ≡ false → tx3g_text s ≡ utf8 s
unfolding tx3g_text
text-other s e = rw e

-- a beginning of the mark, the mark and more, or something else
three : {X : Type 0} (p : List ℕ) → (starts_with p mark ≡ true → X) → ((r : List ℕ) → p ≡ mark ++ r → starts_with p mark ≡ false → X) → (starts_with p mark ≡ false → starts_with mark p ≡ false → X) → X
three p f g h =
    by-test (starts_with p mark) f
    (λ e. by-test (starts_with mark p) (λ t. let r = split mark p t in g r.0 r.1 e) (λ t. h e t))

pub tx3g-begun : Beginnings tx3g_text tx3g_begun
tx3g-begun = record {
  continued = λ p h. three p
      (λ e. let t = split p mark e in (t.0, bytes-behind p t.0 (ap bytes (sym t.1) ∙ mark-bytes), rw (← t.1) mark-itself))
      (λ r q e. rw q (mark_on r (sym (begun-after r (rw q at e)) ∙ rw q at h)))
      (λ e f. let t = utf8-begun.continued p (sym (begun-other p e f) ∙ h) in (t.0, t.1, text-other (p ++ t.0) (other p t.0 e f) ∙ t.2));
  begins = λ p c h. three p
      (λ e. begun-mark p e)
      (λ r q e. rw q (begun-after r (rw q at e) ∙ mark-back r c (rw q at h)))
      (λ e f. begun-other p e f ∙ utf8-begins p c (sym (text-other (p ++ c) (other p c e f)) ∙ h));
}
