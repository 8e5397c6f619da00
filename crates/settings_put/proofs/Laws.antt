-- Laws of settings that are put into a slice: joining, words behind a space, hundredths, and a number's size.
use Prim.Native.Nat.{ℕ, suc, ◌+◌, ◌*◌, ◌/◌, ◌%◌, ◌^◌, ◌≤◌, ◌<◌}
use mathlib.Core.Path.{◌≡◌, refl, sym, ap, ◌∙◌}
use mathlib.Core.Bool.{Bool, true, false}
use mathlib.Core.List.{List, [], ◌∷◌, ◌++◌}
use native.Mathlib.Omega.{arith}
use native.Mathlib.Nat.{zero-add}
use native.Mathlib.Numerals.{towards_suc}
use lib.Dec.{T, eqb}
use lib.IntN.{ℤ, pos, negsuc, nat_abs, ◌-ℤ◌}
use lib.Signed.{lt_z, mag, non_neg}
use lib.ListN.{length, take, drop, set, length-append}
use lib.Seq.{take_at, length-take-le}
use mir.Syntax.{w16, w32}
use mir.Val.{SFits, to_z, of_z}
use mir.Facts.{to_z-of_z}
use borrow.Author.Tests.{eq-eqb, ne_eqb, ltb-true}
use Rattle.base.specs.Choice.{pick}
use Rattle.base.specs.Over.{wrote}
use Rattle.base.proofs.Choice.{either}
use Rattle.base.proofs.Over.{wrote-nil, sets-wrote, in_two, in_three, byte-then}
use Rattle.decimal.specs.Decimal.{decimal}
use Rattle.decimal.proofs.Laws.{length-one, length_more}
use Rattle.utf8.specs.Strings.{DASH}
use Rattle.timestamps.specs.Timestamps.{DOT}
use Rattle.settings.specs.declared.Line.{Line}
use Rattle.settings.specs.declared.Line.TheVariants.{Auto as LineAuto, Number, Percent as LinePercent}
use Rattle.settings.specs.declared.LineAlign.{LineAlign}
use Rattle.settings.specs.Words.{SPACE, PERCENT}
use Rattle.settings.specs.Grammar.{Setting, line}
use Rattle.settings.specs.Form.{fraction_text, percent_text, number_text, stated_line, word_of, appended, joined}
use Rattle.settings_put.specs.Terms.{spaced}

-- ---- settings one behind the other

pub joined-append : (s : List ℕ) (a b : List Setting) → joined s (a ++ b) ≡ joined (joined s a) b
unfolding joined
joined-append s [] b = refl
joined-append s (t ∷ a) b = joined-append (appended s (word_of t)) a b

-- a word is appended with the space that stands before it
pub appended-spaced : (s w : List ℕ) → appended s w ≡ s ++ spaced (length s) w
unfolding spaced
appended-spaced [] w = refl
appended-spaced (b ∷ s) w = ap (λ (t : Bool). (b ∷ s) ++ pick t w (SPACE ∷ w)) (sym (ne_eqb (suc (length s)) 0 (λ e. omega arith)))

pub spaced-append : (at : ℕ) (a b : List ℕ) → spaced at (a ++ b) ≡ spaced at a ++ b
unfolding spaced
spaced-append at a b = go (eqb at 0)
  where
    go : (t : Bool) → pick t (a ++ b) (SPACE ∷ (a ++ b)) ≡ pick t a (SPACE ∷ a) ++ b
    go true = refl
    go false = refl

-- what was written stands behind what stood before
take-wrote : (d v : List ℕ) (at n : ℕ) → at ≤ length d → n ≡ at + length v → take n (wrote d at v) ≡ take at d ++ v
unfolding wrote
take-wrote d v at n h e = take_at (take at d ++ v) (drop (at + length v) d) n (length-append (take at d) v ∙ ap (λ (k : ℕ). k + length v) (length-take-le at d h) ∙ sym e)

module _ (t : Setting) (d : List ℕ) (at : ℕ) (h : at ≤ length d) where
  -- a setting whose word is put at once, in two parts, and in three
  pub put_one : (e w : List ℕ) (n : ℕ) → w ≡ word_of t → n ≡ at + length (spaced at w) → e ≡ wrote d at (spaced at w) → take n e ≡ joined (take at d) (t ∷ [])
  unfolding joined
  put_one e w n same p q =
      ap (take n) q ∙ take-wrote d (spaced at w) at n h p
      ∙ ap (λ (k : ℕ). take at d ++ spaced k w) (sym (length-take-le at d h))
      ∙ sym (appended-spaced (take at d) w) ∙ ap (appended (take at d)) same

  pub put_two : (d₁ d₂ a b : List ℕ) (m n : ℕ) → a ++ b ≡ word_of t → m ≡ at + length (spaced at a) → d₁ ≡ wrote d at (spaced at a) → n ≡ m + length b → d₂ ≡ wrote d₁ m b
      → m ≤ length d → take n d₂ ≡ joined (take at d) (t ∷ [])
  put_two d₁ d₂ a b m n same p q p₂ q₂ k =
      let v : spaced at a ++ b ≡ spaced at (a ++ b) = sym (spaced-append at a b) in
      let l : length (spaced at (a ++ b)) ≡ length (spaced at a) + length b = ap length (sym v) ∙ length-append (spaced at a) b in
      put_one d₂ (a ++ b) n same (omega arith) (in_two d d₁ d₂ (spaced at a) b at m q q₂ p k ∙ ap (wrote d at) v)

  pub put_three : (d₁ d₂ d₃ a b f : List ℕ) (m n o : ℕ) → a ++ (b ++ f) ≡ word_of t → m ≡ at + length (spaced at a) → d₁ ≡ wrote d at (spaced at a) → n ≡ m + length b → d₂ ≡ wrote d₁ m b
      → o ≡ n + length f → d₃ ≡ wrote d₂ n f → n ≤ length d₁ → m ≤ length d → take o d₃ ≡ joined (take at d) (t ∷ [])
  put_three d₁ d₂ d₃ a b f m n o same p q p₂ q₂ p₃ q₃ j k =
      put_two d₁ d₃ a (b ++ f) m o same p q (omega (arith, length-append b f)) (in_two d₁ d₂ d₃ b f m n q₂ q₃ p₂ j) k

-- five runs of settings
pub put_all : (a b c d e : List Setting) (s₁ s₂ s₃ s₄ s₅ : List ℕ) → s₁ ≡ joined [] a → s₂ ≡ joined s₁ b → s₃ ≡ joined s₂ c → s₄ ≡ joined s₃ d → s₅ ≡ joined s₄ e
    → s₅ ≡ joined [] (a ++ (b ++ (c ++ (d ++ e))))
put_all a b c d e s₁ s₂ s₃ s₄ s₅ p q r u v = simp joined-append (cc)

-- a word that is the first, and one behind others
module _ (d e w : List ℕ) (at n : ℕ) where
  pub word_first : at ≡ 0 → n ≡ at + length w → e ≡ wrote d at w → (n ≡ at + length (spaced at w)) × (e ≡ wrote d at (spaced at w)) × (n ≤ at + 1 + length w)
  unfolding spaced
  word_first z p q = (rw (eq-eqb at 0 z) p, rw (eq-eqb at 0 z) q, omega arith)

  pub word-behind : (at ≡ 0 → ⊥) → n ≡ at + 1 + length w → e ≡ wrote (set d at SPACE) (at + 1) w → at + 1 ≤ length d
      → (n ≡ at + length (spaced at w)) × (e ≡ wrote d at (spaced at w)) × (n ≤ at + 1 + length w)
  unfolding spaced
  word-behind z p q h = (rw (ne_eqb at 0 z) (omega arith), rw (ne_eqb at 0 z) (byte-then d e w at (at + 1) SPACE q refl h), omega arith)

-- ---- values

-- hundredths, as they are stored
module _ (d : List ℕ) (at h : ℕ) where
  pub fraction-none : h ≡ 0 → (at ≡ at + length (fraction_text h)) × (d ≡ wrote d at (fraction_text h))
  unfolding fraction_text
  fraction-none z = rw z (omega arith, wrote-nil d at)

  module _ (some : h ≡ 0 → ⊥) where
    pub fraction-tenths : h % 10 ≡ 0 → at + 2 ≤ length d
        → (at + 2 ≡ at + length (fraction_text h)) × (set (set d at DOT) (at + 1) (48 + h / 10) ≡ wrote d at (fraction_text h))
    unfolding fraction_text
    fraction-tenths z l = rw (ne_eqb h 0 some, eq-eqb (h % 10) 0 z) (omega arith, rw (← sets-wrote d at (DOT ∷ (48 + h / 10) ∷ []) l) (simp towards_suc))

    pub fraction-hundredths : (h % 10 ≡ 0 → ⊥) → at + 3 ≤ length d
        → (at + 3 ≡ at + length (fraction_text h)) × (set (set (set d at DOT) (at + 1) (48 + h / 10)) (at + 2) (48 + h % 10) ≡ wrote d at (fraction_text h))
    unfolding fraction_text
    fraction-hundredths z l = rw (ne_eqb h 0 some, ne_eqb (h % 10) 0 z) (omega arith, rw (← sets-wrote d at (DOT ∷ (48 + h / 10) ∷ (48 + h % 10) ∷ []) l) (simp towards_suc))

-- few digits
more-digits : (m k : ℕ) → ((q : ℕ) → q < m → length (decimal q) ≤ k) → m ≤ 10 ^ 19 → (n : ℕ) → n < m * 10 → length (decimal n) ≤ suc k
more-digits m k f l n h =
    either n 9
    (λ s. omega (arith, length-one n (omega arith)))
    (λ s. omega (arith, length_more n (omega arith) (omega arith), f (n / 10) (omega arith)))

one-digit : (n : ℕ) → n < 10 → length (decimal n) ≤ 1
one-digit n h = omega (arith, length-one n h)

pub three-digits : (n : ℕ) → n < 1000 → length (decimal n) ≤ 3
three-digits = more-digits 100 2 (more-digits 10 1 one-digit (omega arith)) (omega arith)

pub five-digits : (n : ℕ) → n < 100000 → length (decimal n) ≤ 5
five-digits = more-digits 10000 4 (more-digits 1000 3 three-digits (omega arith)) (omega arith)

-- the mark behind digits and decimals
pub percent-written : (d d₁ d₂ : List ℕ) (at m n p : ℕ) → m ≡ at + length (decimal (p / 100)) → d₁ ≡ wrote d at (decimal (p / 100)) → n ≡ m + length (fraction_text (p % 100)) → d₂ ≡ wrote d₁ m (fraction_text (p % 100))
    → n < length d → n < length d₂ → (n + 1 ≡ at + length (percent_text p)) × (set d₂ n PERCENT ≡ wrote d at (percent_text p))
unfolding percent_text
percent-written d d₁ d₂ at m n p e₁ f₁ e₂ f₂ h k = (
  simp length-append (omega arith),
  in_three d d₁ d₂ (set d₂ n PERCENT) (decimal (p / 100)) (fraction_text (p % 100)) (PERCENT ∷ []) at m n f₁ f₂ (sets-wrote d₂ n (PERCENT ∷ []) (omega arith)) e₁ e₂ (omega arith),
)

-- what is known of a line that is not auto
pub not-auto : (l : Line) (a : LineAlign) → (l ≡ LineAuto → ⊥) → stated_line l a ≡ line l a ∷ []
not-auto LineAuto a h = absurd (h refl)
not-auto (Number n) a h = refl
not-auto (LinePercent p) a h = refl

-- ---- numbers

number-minus : (n : ℤ) → lt_z n (pos 0) ≡ true → DASH ∷ decimal (nat_abs n) ≡ number_text n
number-minus (pos k) h = let l = ltb-true k 0 h in absurd (omega arith)
number-minus (negsuc k) h = refl

number-plain : (n : ℤ) → lt_z n (pos 0) ≡ false → decimal (nat_abs n) ≡ number_text n
number-plain (pos k) h = refl
number-plain (negsuc k) h = let z : ◌≡◌ {A = ℕ} 0 1 = cc in absurd (omega arith)

below-zero : (n : ℤ) → lt_z n (pos 0) ≡ true → pos 0 -ℤ n ≡ pos (nat_abs n)
below-zero (pos k) h = let l = ltb-true k 0 h in absurd (omega arith)
below-zero (negsuc k) h = ap pos (zero-add (suc k))

not-below : (n : ℤ) → lt_z n (pos 0) ≡ false → T (non_neg n)
not-below (pos k) h = tt
not-below (negsuc k) h = let z : ◌≡◌ {A = ℕ} 0 1 = cc in absurd (omega arith)

within : (n : ℤ) → mag n < 32768 → nat_abs n ≤ 32768
within (pos k) h = omega arith
within (negsuc k) h = omega arith

-- a number of 16 bits as the code reads it, and as it takes its sign away
module _ (n : ℤ) (f : SFits w16 n) where
  pub read16 : to_z w16 (of_z w16 n) ≡ n
  read16 = to_z-of_z f

  pub fits32 : SFits w32 (to_z w16 (of_z w16 n))
  fits32 = rw read16 record { sfits = omega (arith, f.sfits) }

  pub small : nat_abs n ≤ 32768
  small = within n f.sfits

  pub plain : lt_z (to_z w16 (of_z w16 n)) (pos 0) ≡ false → T (non_neg (to_z w16 (of_z w16 n)))
  plain h = not-below (to_z w16 (of_z w16 n)) h

  module _ (h : lt_z (to_z w16 (of_z w16 n)) (pos 0) ≡ true) where
    turned : pos 0 -ℤ to_z w32 (of_z w32 (to_z w16 (of_z w16 n))) ≡ pos (nat_abs n)
    turned = ap (λ (z : ℤ). pos 0 -ℤ z) (to_z-of_z fits32) ∙ below-zero (to_z w16 (of_z w16 n)) h ∙ ap (λ (z : ℤ). pos (nat_abs z)) read16

    pub turned-fits : SFits w32 (pos 0 -ℤ to_z w32 (of_z w32 (to_z w16 (of_z w16 n))))
    turned-fits = rw turned record { sfits = omega (arith, small) }

    pub turned-is : to_z w32 (of_z w32 (pos 0 -ℤ to_z w32 (of_z w32 (to_z w16 (of_z w16 n))))) ≡ pos (nat_abs n)
    turned-is = to_z-of_z turned-fits ∙ turned

  module _ (d e : List ℕ) (at m r : ℕ) (size : m ≡ nat_abs (to_z w16 (of_z w16 n))) where
    pub minus-written : lt_z (to_z w16 (of_z w16 n)) (pos 0) ≡ true → r ≡ at + 1 + length (decimal m) → e ≡ wrote (set d at DASH) (at + 1) (decimal m) → at + 1 ≤ length d
        → (r ≡ at + length (number_text n)) × (e ≡ wrote d at (number_text n))
    minus-written h p q l =
        let same : DASH ∷ decimal m ≡ number_text n = ap (λ (k : ℕ). DASH ∷ decimal k) size ∙ number-minus (to_z w16 (of_z w16 n)) h ∙ ap number_text read16 in
        rw (← same) (omega arith, byte-then d e (decimal m) at (at + 1) DASH q refl l)

    pub plain-written : lt_z (to_z w16 (of_z w16 n)) (pos 0) ≡ false → r ≡ at + length (decimal m) → e ≡ wrote d at (decimal m)
        → (r ≡ at + length (number_text n)) × (e ≡ wrote d at (number_text n))
    plain-written h p q = let same : decimal m ≡ number_text n = ap decimal size ∙ number-plain (to_z w16 (of_z w16 n)) h ∙ ap number_text read16 in rw (← same) (p, q)
