-- Laws of a form: its length, what may be written, the answers, and the form in a slice.
use Prim.Native.Nat.{ℕ, suc, ◌+◌, ◌^◌, ◌≤◌, ◌<◌}
use mathlib.Core.Path.{◌≡◌, refl, sym, ap, ◌∙◌}
use mathlib.Core.Bool.{Bool, true, false}
use mathlib.Core.List.{List, [], ◌∷◌, ◌++◌}
use native.Mathlib.Omega.{arith}
use lib.Dec.{eqb, leb}
use lib.IntN.{ℤ, pos, negsuc}
use lib.Signed.{le_z, mag}
use lib.ListN.{length, take, length-append}
use lib.Seq.{length-take-le}
use borrow.Author.Tests.{eq-eqb, ne_eqb, le-leb, lt-leb, eqb-true, eqb-false, leb-true, leb-false, lt-ltb, le-ltb}
use Rattle.base.specs.Choice.{both}
use Rattle.base.specs.Over.{over, wrote}
use Rattle.base.proofs.Choice.{both_left, both_right, by-test}
use Rattle.base.proofs.Over.{wrote-over, in_three}
use Rattle.base.proofs.Tests.{both-no}
use Rattle.std.specs.Result.{is_ok}
use Rattle.viable.specs.Judged.{Judged, Right, Bad}
use Rattle.viable.specs.FirstBad.{judged_by}
use Rattle.viable.proofs.FirstBad.{when-right, when-bad}
use Rattle.verdict.specs.Judgement.{fault}
use Rattle.text.specs.Beginnings.{identifier_begun}
use Rattle.text.specs.Rules.{identifier_text}
use Rattle.wvtt_entry_write.specs.Written.{Done, Refused}
use Rattle.text.proofs.Rules.{empty-line}
use Rattle.timestamps.specs.Timestamps.{front}
use Rattle.settings.specs.declared.Settings.{Settings}
use Rattle.settings.specs.Words.{REGION}
use Rattle.settings.specs.Grammar.{named}
use Rattle.settings.specs.Form.{word_of, joined, stated_values, stated_region, stated, written, region_allowed, settings_allowed, writable}
use Rattle.settings_put.specs.Terms.{spaced}
use Rattle.settings_put.proofs.Laws.{joined-append, appended-spaced, spaced-append}
use Rattle.settings_write.specs.Writing.{record_with, settings_room, settings_written}
use Rattle.settings_write.specs.Terms.{sound, form_size}

-- ---- no name is allowed

pub nameless : (w : List ℕ) → length w ≡ 0 → true ≡ region_allowed w
unfolding region_allowed
nameless [] h = sym (rw (le-leb 0 (length (front named [])) (omega arith)) empty-line)
nameless (b ∷ w) h = absurd (omega arith)

pub judged-name : (w : List ℕ) (j : Judged) → j ≡ judged_by identifier_text identifier_begun w → is_ok j ≡ identifier_text w
judged-name w Right e = sym (when-right identifier_text identifier_begun w (sym e))
judged-name w (Bad q) e = sym (when-bad identifier_text identifier_begun w q (sym e)).0

-- ---- a line's number is in its range

pub number-allowed : (n : ℤ) → mag n < 2 ^ 15 → true ≡ both (le_z (negsuc 32767) n) (le_z n (pos 32767))
number-allowed (pos k) h = sym (le-leb k 32767 (omega arith))
number-allowed (negsuc k) h = rw (le-leb k 32767 (omega arith))

-- ---- the length

pub size_none : (n m : ℕ) → m ≡ 0 → form_size n m ≡ n
unfolding form_size
size_none n m z = rw (eq-eqb m 0 z)

pub size-first : (n m : ℕ) → (m ≡ 0 → ⊥) → n ≡ 0 → form_size n m ≡ 7 + m
unfolding form_size
size-first n m z y = rw (ne_eqb m 0 z, eq-eqb n 0 y)

pub size-behind : (n m : ℕ) → (m ≡ 0 → ⊥) → (n ≡ 0 → ⊥) → form_size n m ≡ n + 8 + m
unfolding form_size
size-behind n m z y = rw (ne_eqb m 0 z, ne_eqb n 0 y)

-- `region:` with the space before it, and the name
pub size-some : (n m : ℕ) → (m ≡ 0 → ⊥) → (form_size n m ≡ n + length (spaced n REGION) + m) × (n + 8 ≤ form_size n m)
unfolding spaced form_size
size-some n m z = by-test (eqb n 0)
    (λ e. rw (ne_eqb m 0 z, e) (let q = eqb-true n 0 e in (omega arith, omega arith)))
    (λ e. rw (ne_eqb m 0 z, e) (omega arith, omega arith))

pub size-least : (n m : ℕ) → n ≤ form_size n m
unfolding form_size
size-least n m = by-test (eqb m 0) (λ e. rw e (omega arith)) (λ e. omega (arith, (size-some n m (eqb-false m 0 e)).1))

-- a form's length
pub joined-size : (s w : List ℕ) → length (joined s (stated_region w)) ≡ form_size (length s) (length w)
unfolding joined word_of
joined-size s [] = sym (size_none (length s) 0 refl)
joined-size s (b ∷ w) =
    let z = size-some (length s) (suc (length w)) (λ e. omega arith) in
    ap length (appended-spaced s (REGION ++ (b ∷ w)) ∙ ap (λ (v : List ℕ). s ++ v) (spaced-append (length s) REGION (b ∷ w)))
    ∙ simp length-append (omega (arith, z.0))

-- one of two tests fails, and with them a third
two-refused : (a b c : Bool) → both a b ≡ false → both a (both b c) ≡ false
two-refused true true c h = let z : ◌≡◌ {A = ℕ} 0 1 = cc in absurd (omega arith)
two-refused true false c h = refl
two-refused false b c h = refl

module _ (x : Settings) (w : List ℕ) where
  written-joined : written (record_with x w) ≡ joined (joined [] (stated_values x)) (stated_region w)
  unfolding written stated
  written-joined = joined-append [] (stated_values x) (stated_region w)

  pub written-size : length (written (record_with x w)) ≡ form_size (length (joined [] (stated_values x))) (length w)
  written-size = ap length written-joined ∙ joined-size (joined [] (stated_values x)) w

  -- where the front of d holds all but the region
  pub front-size : (n : ℕ) (d : List ℕ) → take n d ≡ joined [] (stated_values x) → n ≤ length d → form_size n (length w) ≡ length (written (record_with x w))
  front-size n d e l = ap (λ (k : ℕ). form_size k (length w)) (sym (length-take-le n d l) ∙ ap length e) ∙ sym written-size

  -- ---- what may be written

  pub sound-short : (b : Bool) → b ≡ sound x w → b ≡ true → length w ≤ 255
  unfolding sound
  sound-short b p e = leb-true (length w) 255 (both_left (leb (length w) 255) (both (settings_allowed x) (region_allowed w)) (sym p ∙ e))

  long-name : 255 < length w → 255 < length (written (record_with x w))
  long-name h =
      let z = size-some (length (joined [] (stated_values x))) (length w) (λ e. omega arith) in
      omega (arith, written-size, z.0)

  too_long : 255 < length (written (record_with x w)) → writable (record_with x w) ≡ false
  unfolding writable
  too_long h = rw (lt-leb (length (written (record_with x w))) 255 h, both-no, both-no)

  pub not_sound : (b : Bool) → b ≡ sound x w → b ≡ false → writable (record_with x w) ≡ false
  unfolding sound writable
  not_sound b p e =
      by-test (leb (length w) 255)
      (λ l. two-refused (settings_allowed x) (region_allowed w) (leb (length (written (record_with x w))) 255) (ap (λ (t : Bool). both t (both (settings_allowed x) (region_allowed w))) (sym l) ∙ sym p ∙ e))
      (λ l. too_long (long-name (leb-false (length w) 255 l)))

  module _ (d : List ℕ) (n size : ℕ) (b : Bool) (p : b ≡ sound x w) (e : b ≡ true) (front : take n d ≡ joined [] (stated_values x)) (l : n ≤ length d) (q : size ≡ form_size n (length w)) where
    size_is : size ≡ length (written (record_with x w))
    size_is = q ∙ front-size n d front l

    pub oversize : 255 < size → writable (record_with x w) ≡ false
    oversize h = too_long (omega (arith, size_is))

    pub prepared : size ≤ 255 → (writable (record_with x w) ≡ true) × (take n d ≡ joined [] (stated_values x)) × (n ≤ length d) × (size ≡ length (written (record_with x w)))
    unfolding sound writable
    prepared h =
        let r = both_right (leb (length w) 255) (both (settings_allowed x) (region_allowed w)) (sym p ∙ e) in
        let k = le-leb (length (written (record_with x w))) 255 (omega (arith, size_is)) in
        (rw (both_left (settings_allowed x) (region_allowed w) r, both_right (settings_allowed x) (region_allowed w) r) k, front, l, size_is)

  -- ---- the answers

  pub room-unfit : writable (record_with x w) ≡ false → Refused (fault 8 0) ≡ settings_room x w
  unfolding settings_room
  room-unfit h = rw h

  module _ (size : ℕ) (h : writable (record_with x w) ≡ true) (q : size ≡ length (written (record_with x w))) where
    pub room-done : Done size ≡ settings_room x w
    unfolding settings_room
    room-done = rw h (ap Done q)

    pub written-short : (room : ℕ) → room < size → settings_written x w room ≡ Refused (fault 15 0)
    unfolding settings_written
    written-short room k = rw (← room-done, lt-ltb room size k)

    pub written-done : (room : ℕ) → size ≤ room → settings_written x w room ≡ Done size
    unfolding settings_written
    written-done room k = rw (← room-done, le-ltb room size k)

  pub written-unfit : (room : ℕ) → writable (record_with x w) ≡ false → settings_written x w room ≡ Refused (fault 8 0)
  unfolding settings_written
  written-unfit room h = rw (← room-unfit h)

  -- what is put over an output is the form
  pub form-over : (s d e : List ℕ) → s ≡ joined [] (stated_values x) → e ≡ over (joined s (stated_region w)) d → e ≡ over (written (record_with x w)) d
  form-over s d e p q = q ∙ ap (λ (v : List ℕ). over v d) (ap (λ (v : List ℕ). joined v (stated_region w)) p ∙ sym written-joined)

-- ---- the form in a slice

no-region : (w : List ℕ) → length w ≡ 0 → stated_region w ≡ []
no-region [] z = refl
no-region (b ∷ w) z = absurd (omega arith)

pub form-alone : (d e s w : List ℕ) → length w ≡ 0 → e ≡ wrote d 0 s → e ≡ over (joined s (stated_region w)) d
unfolding joined
form-alone d e s w z q = rw (no-region w z) (q ∙ wrote-over d s)

form-joined : (s w : List ℕ) → (length w ≡ 0 → ⊥) → s ++ (spaced (length s) REGION ++ w) ≡ joined s (stated_region w)
unfolding joined word_of
form-joined s [] z = absurd (z refl)
form-joined s (b ∷ w) z = ap (λ (v : List ℕ). s ++ v) (sym (spaced-append (length s) REGION (b ∷ w))) ∙ sym (appended-spaced s (REGION ++ (b ∷ w)))

pub form-region : (d d₁ d₂ d₃ s w : List ℕ) (n at : ℕ) → n ≡ length s → (length w ≡ 0 → ⊥) → form_size n (length w) ≤ length d → d₁ ≡ wrote d 0 s → at ≡ n + length (spaced n REGION)
    → d₂ ≡ wrote d₁ n (spaced n REGION) → d₃ ≡ wrote d₂ at w → d₃ ≡ over (joined s (stated_region w)) d
form-region d d₁ d₂ d₃ s w n at e z h q₁ p q₂ q₃ =
    in_three d d₁ d₂ d₃ s (spaced n REGION) w 0 n at q₁ q₂ q₃ (omega arith) p (omega (arith, (size-some n (length w) z).0))
    ∙ wrote-over d (s ++ (spaced n REGION ++ w))
    ∙ ap (λ (v : List ℕ). over v d) (ap (λ (k : ℕ). s ++ (spaced k REGION ++ w)) e ∙ form-joined s w z)
