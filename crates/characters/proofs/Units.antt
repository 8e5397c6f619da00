-- Where UTF-16 is bad, unit by unit.
use Prim.Native.Nat.{ℕ, zero, suc, ◌+◌, ◌<◌, ◌≤◌}
use mathlib.Core.Path.{◌≡◌, refl, sym, ap, ap₂, ◌∙◌}
use mathlib.Core.Bool.{Bool, true, false}
use mathlib.Core.List.{List, [], ◌∷◌, ◌++◌}
use native.Mathlib.Omega.{arith}
use native.Mathlib.Nat.{add-zero, add_assoc}
use borrow.Author.Tests.{ne_eqb, eqb-true, eqb-false}
use lib.Dec.{eqb}
use lib.ListN.{length, get_or, take, drop, drop_of_length-le}
use lib.Seq.{drop-cons}
use Rattle.base.specs.Choice.{pick, within}
use Rattle.base.proofs.Choice.{by-test}
use Rattle.viable.specs.FirstBad.{stops_at, judged_by}
use Rattle.viable.specs.Judged.{Judged, Right, Bad}
use Rattle.viable.proofs.FirstBad.{stops_same, judged-right, judged-bad, judged-same}
use Rattle.utf8.specs.Strings.{starts_with, agree}
use Rattle.utf8.specs.Utf8.{utf8, utf8_begun, judge, begun, follow, follow_in, rows}
use Rattle.utf8.proofs.Strings.{split}
use Rattle.utf8.proofs.Strings.{agrees-all}
use Rattle.characters.specs.Characters.{firsts, is_high, is_low, same_test, utf16, utf16_begun, mark, tx3g_text, tx3g_begun, count_by, characters_of}
use Rattle.characters.proofs.Counts.{unit-at, count-firsts}

-- the answer for a text that n bytes stand before
abbrev pub later : ℕ → Judged → Judged
later n Right = Right
later n (Bad q) = Bad (n + q)

later-later : (m n : ℕ) (j : Judged) → later m (later n j) ≡ later (m + n) j
later-later m n Right = refl
later-later m n (Bad q) = ap Bad (sym (add_assoc m n q))

-- n bytes that every text of `keeps'` begins with, and then a text of `keeps`
moved : (keeps begun keeps' begun' : List ℕ → Bool) (s t : List ℕ) (n : ℕ) → keeps' t ≡ keeps s → stops_at begun' t ≡ n + stops_at begun s → judged_by keeps' begun' t ≡ later n (judged_by keeps begun s)
moved keeps begun keeps' begun' s t n e m =
    by-test (keeps s)
    (λ h. rw (← judged-right keeps begun s h) (sym (judged-right keeps' begun' t (e ∙ h))))
    (λ h. rw (← judged-bad keeps begun s (stops_at begun s) h refl) (sym (judged-bad keeps' begun' t (n + stops_at begun s) (e ∙ h) (sym m))))

-- the answer for units of which the first is due, or not due, to be a low surrogate
unfoldable pub units : Bool → List ℕ → Judged
units due s = judged_by (utf16 due) (utf16_begun due) s

utf-on : (due : Bool) (h l : ℕ) (s : List ℕ) → same_test (is_low h) due ≡ true → utf16 due (h ∷ l ∷ s) ≡ utf16 (is_high h) s
unfolding utf16
utf-on due h l s e = rw e

stops-on : (due : Bool) (h l : ℕ) (s : List ℕ) → same_test (is_low h) due ≡ true → stops_at (utf16_begun due) (h ∷ l ∷ s) ≡ 2 + stops_at (utf16_begun (is_high h)) s
unfolding utf16_begun stops_at
stops-on due h l s e = rw e (omega arith)

unit-on : (due : Bool) (h l : ℕ) (s : List ℕ) → same_test (is_low h) due ≡ true → units due (h ∷ l ∷ s) ≡ later 2 (units (is_high h) s)
unfolding units
unit-on due h l s e = moved (utf16 (is_high h)) (utf16_begun (is_high h)) (utf16 due) (utf16_begun due) s (h ∷ l ∷ s) 2 (utf-on due h l s e) (stops-on due h l s e)

off-stops : (due : Bool) (h : ℕ) (s : List ℕ) → same_test (is_low h) due ≡ false → 0 ≡ stops_at (utf16_begun due) (h ∷ s)
unfolding utf16_begun stops_at
off-stops due h s e = rw e

off-bad : (due : Bool) (h : ℕ) (s : List ℕ) → same_test (is_low h) due ≡ false → utf16 due (h ∷ s) ≡ false
unfolding utf16
off-bad due h [] e = refl
off-bad due h (l ∷ s) e = rw e

unit-off : (due : Bool) (h : ℕ) (s : List ℕ) → same_test (is_low h) due ≡ false → Bad 0 ≡ units due (h ∷ s)
unfolding units
unit-off due h s e = judged-bad (utf16 due) (utf16_begun due) (h ∷ s) 0 (off-bad due h s e) (off-stops due h s e)

odd-stops : (due : Bool) (h : ℕ) → same_test (is_low h) due ≡ true → 1 ≡ stops_at (utf16_begun due) (h ∷ [])
unfolding utf16_begun stops_at
odd-stops due h e = rw e

odd-bad : (due : Bool) (h : ℕ) → utf16 due (h ∷ []) ≡ false
unfolding utf16
odd-bad due h = refl

unit-odd : (due : Bool) (h : ℕ) → same_test (is_low h) due ≡ true → Bad 1 ≡ units due (h ∷ [])
unfolding units
unit-odd due h e = judged-bad (utf16 due) (utf16_begun due) (h ∷ []) 1 (odd-bad due h) (odd-stops due h e)

unit-none : (due : Bool) → pick due (Bad 0) Right ≡ units due []
unfolding units utf16 judged_by stops_at
unit-none true = refl
unit-none false = refl

-- in a loop that stands at place i of the text, with the answer A for the whole
module _ (s : List ℕ) (i : ℕ) (due : Bool) (A : Judged) (g : later i (units due (drop i s)) ≡ A) where
  pub units-turn : (e d : Bool) → i + 1 < length s → e ≡ same_test (is_low (get_or s i 0)) due → e ≡ true → d ≡ is_high (get_or s i 0) → later (i + 2) (units d (drop (i + 2) s)) ≡ A
  units-turn e d h told found is =
      let r : later i (units due (get_or s i 0 ∷ get_or s (i + 1) 0 ∷ drop (i + 2) s)) ≡ A = rw (unit-at s i h) at g in
      rw is (sym (later-later i 2 (units (is_high (get_or s i 0)) (drop (i + 2) s))) ∙ ap (later i) (sym (unit-on due (get_or s i 0) (get_or s (i + 1) 0) (drop (i + 2) s) (sym told ∙ found))) ∙ r)

  pub units-stop : (e : Bool) → i < length s → e ≡ same_test (is_low (get_or s i 0)) due → e ≡ false → Bad i ≡ A
  units-stop e h told found =
      let r : later i (units due (get_or s i 0 ∷ drop (suc i) s)) ≡ A = rw (drop-cons s i 0 h) at g in
      ap Bad (sym (add-zero i)) ∙ ap (later i) (unit-off due (get_or s i 0) (drop (suc i) s) (sym told ∙ found)) ∙ r

  pub units-odd : (e : Bool) (n : ℕ) → n ≡ length s → i < n → n ≤ i + 1 → e ≡ same_test (is_low (get_or s i 0)) due → e ≡ true → Bad n ≡ A
  units-odd e n q h k told found =
      let l : length s ≤ suc i = omega arith in
      let m : n ≡ i + 1 = omega arith in
      let r : later i (units due (get_or s i 0 ∷ [])) ≡ A = rw (drop-cons s i 0 (omega arith), drop_of_length-le s l) at g in
      ap Bad m ∙ ap (later i) (unit-odd due (get_or s i 0) (sym told ∙ found)) ∙ r

  ended : length s ≤ i → later i (pick due (Bad 0) Right) ≡ A
  ended h = let r : later i (units due []) ≡ A = rw (drop_of_length-le s h) at g in ap (later i) (unit-none due) ∙ r

  pub units-due : i ≤ length s → length s ≤ i → due ≡ true → Bad (length s) ≡ A
  units-due k h d =
      let m : length s ≡ i + 0 = omega arith in
      let r : Bad (i + 0) ≡ A = rw d at ended h in
      ap Bad m ∙ r

  pub units-done : length s ≤ i → due ≡ false → Right ≡ A
  units-done h d = rw d at ended h

-- after the mark
marked-text : (r : List ℕ) → tx3g_text (mark ++ r) ≡ utf16 false r
unfolding tx3g_text mark starts_with
marked-text r = refl

marked-same : (p : List ℕ) → tx3g_begun (mark ++ p) ≡ utf16_begun false p
unfolding tx3g_begun mark starts_with utf16_begun
marked-same [] = refl
marked-same (x ∷ p) = refl

marked-stops : (r : List ℕ) → stops_at tx3g_begun (mark ++ r) ≡ 2 + stops_at (utf16_begun false) r
unfolding stops_at tx3g_begun mark starts_with
marked-stops r =
    let e : stops_at (λ p. tx3g_begun (mark ++ p)) r ≡ stops_at (utf16_begun false) r = stops_same (λ p. tx3g_begun (mark ++ p)) (utf16_begun false) r (λ k l. marked-same (take k r)) in
    omega arith

marked-units : (r : List ℕ) → later 2 (units false r) ≡ judged_by tx3g_text tx3g_begun (mark ++ r)
unfolding units
marked-units r = sym (moved (utf16 false) (utf16_begun false) tx3g_text tx3g_begun r (mark ++ r) 2 (marked-text r) (marked-stops r))

pub units-start : (s : List ℕ) → starts_with mark s ≡ true → later 2 (units false (drop 2 s)) ≡ judged_by tx3g_text tx3g_begun s
unfolding mark
units-start s h = let t = split mark s h in rw t.1 (marked-units t.0)

-- the mark's first byte, and another after it or none
half-stops : (s : List ℕ) → 0 ≡ agree (0xFF ∷ []) s → 1 ≡ stops_at tx3g_begun (0xFE ∷ s)
unfolding agree stops_at tx3g_begun mark starts_with utf8_begun begun follow follow_in rows within
half-stops [] h = refl
half-stops (b ∷ s) h =
    by-test (eqb b 0xFF)
    (λ e. let z : 0 ≡ suc (agree [] s) = rw e at h in absurd (omega arith))
    (λ e. rw (e, ne_eqb 0xFF b (λ z. eqb-false b 0xFF e (sym z))))

half-bad : (s : List ℕ) → 0 ≡ agree (0xFF ∷ []) s → tx3g_text (0xFE ∷ s) ≡ false
unfolding agree tx3g_text mark starts_with utf8 judge follow follow_in rows within
half-bad [] h = refl
half-bad (b ∷ s) h =
    by-test (eqb b 0xFF)
    (λ e. let z : 0 ≡ suc (agree [] s) = rw e at h in absurd (omega arith))
    (λ e. rw e)

pub mark-half : (s : List ℕ) (n : ℕ) → n ≡ agree mark s → n ≡ 1 → Bad 1 ≡ judged_by tx3g_text tx3g_begun s
unfolding agree mark
mark-half [] n q h = absurd (omega arith)
mark-half (b ∷ s) n q h =
    by-test (eqb b 0xFE)
    (λ e.
    let z : n ≡ suc (agree (0xFF ∷ []) s) = rw e at q in
    let y : 0 ≡ agree (0xFF ∷ []) s = omega arith in
    let x = eqb-true b 0xFE e in
    rw x (judged-bad tx3g_text tx3g_begun (0xFE ∷ s) 1 (half-bad s y) (half-stops s y)))
    (λ e. let z : n ≡ 0 = rw e at q in absurd (omega arith))

-- another first byte, or none
other-begun : (b : ℕ) (p : List ℕ) → eqb b 0xFE ≡ false → utf8_begun (b ∷ p) ≡ tx3g_begun (b ∷ p)
unfolding tx3g_begun mark starts_with
other-begun b p e = rw (e, ne_eqb 0xFE b (λ z. eqb-false b 0xFE e (sym z)))

other_text : (b : ℕ) (s : List ℕ) → eqb b 0xFE ≡ false → utf8 (b ∷ s) ≡ tx3g_text (b ∷ s)
unfolding tx3g_text mark starts_with
other_text b s e = rw e

none-begun : utf8_begun [] ≡ tx3g_begun []
unfolding utf8_begun begun tx3g_begun starts_with
none-begun = refl

front-begun : (b : ℕ) (s : List ℕ) (k : ℕ) → eqb b 0xFE ≡ false → utf8_begun (take k (b ∷ s)) ≡ tx3g_begun (take k (b ∷ s))
front-begun b s zero e = none-begun
front-begun b s (suc k) e = other-begun b (take k s) e

none-judged : judged_by utf8 utf8_begun [] ≡ judged_by tx3g_text tx3g_begun []
unfolding judged_by utf8 judge tx3g_text mark starts_with
none-judged = refl

plain-judged : (s : List ℕ) (n : ℕ) → n ≡ agree mark s → n ≡ 0 → (judged_by utf8 utf8_begun s ≡ judged_by tx3g_text tx3g_begun s) × (starts_with mark s ≡ false)
unfolding agree mark starts_with
plain-judged [] n q h = (none-judged, refl)
plain-judged (b ∷ s) n q h =
    by-test (eqb b 0xFE)
    (λ e. let z : n ≡ suc (agree (0xFF ∷ []) s) = rw e at q in absurd (omega arith))
    (λ e. (judged-same utf8 utf8_begun tx3g_text tx3g_begun (b ∷ s) (other_text b s e) (λ k l. front-begun b s k e), rw e))

-- without any of the mark the text is UTF-8, or bad where that is bad
pub mark-none : (s : List ℕ) (n : ℕ) → n ≡ agree mark s → n ≡ 0 → count_by (judged_by utf8 utf8_begun s) (firsts s) ≡ characters_of s
unfolding characters_of
mark-none s n q h = let w = plain-judged s n q h in ap₂ count_by w.0 (count-firsts s w.1)

pub mark-whole : (s : List ℕ) (n : ℕ) → n ≡ agree mark s → n ≡ 2 → starts_with mark s ≡ true
unfolding mark
mark-whole s n q h = (agrees-all mark s (omega arith)).0
