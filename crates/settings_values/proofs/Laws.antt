-- The values of settings by their bytes and by numbers that are kept within a limit.
use Rattle.settings.specs.Word.{Malformed}
use Prim.Native.Nat.{ℕ, zero, suc, ◌+◌, ◌-◌, ◌*◌, ◌^◌, ◌≤◌, ◌<◌, min}
use mathlib.Core.Path.{◌≡◌, refl, sym, ap, ◌∙◌}
use mathlib.Core.Bool.{Bool, true, false}
use mathlib.Core.Option.{Option, none, some}
use mathlib.Core.List.{List, [], ◌∷◌}
use native.Mathlib.Omega.{arith}
use lib.Dec.{eqb, leb}
use lib.IntN.{ℤ, pos, neg_ℤ, ◌-ℤ◌}
use lib.Pow.{pow_pos}
use mir.Syntax.{Width}
use mir.Val.{hbits, SFits}
use lib.ListN.{length, take, drop, get_or, length-drop, drop_of_length-le}
use lib.Seq.{take_all, drop-cons}
use borrow.Author.Tests.{lt-ltb, le-leb, lt-leb, eq-eqb, ne_eqb, leb-true}
use Rattle.base.specs.Choice.{pick, both, same_list}
use Rattle.base.proofs.Choice.{by-test, either, same-list}
use Rattle.base.proofs.Tests.{both-no, both_yes}
use Rattle.decimal.specs.Decimal.{value}
use Rattle.utf8.specs.Strings.{DASH, starts_with}
use Rattle.timestamps.specs.Timestamps.{DOT, digit, front, behind}
use Rattle.timestamps.proofs.Laws.{behind-drop}
use Rattle.vtt_timing.proofs.Laws.{front-take}
use Rattle.settings.specs.declared.Line.{Line}
use Rattle.settings.specs.declared.Line.TheVariants.{Auto, Number, Percent as LinePercent}
use Rattle.settings.specs.declared.LineAlign.TheVariants.{Start as LineStart}
use Rattle.settings.specs.declared.PositionAlign.TheVariants.{Auto as PositionAuto}
use Rattle.settings.specs.Words.{PERCENT, line_word, line_aligns, position_word, position_aligns}
use Rattle.settings.specs.Reading.{number_of, hundredths_of, in_all, percent_of, line_percent, line_of, not_comma, as_line, as_position, word_in, line_parsed, position_parsed}

-- what stands behind a place, as it is lent
pub lent : (s : List ℕ) (n : ℕ) → take (length s - n) (drop n s) ≡ drop n s
lent s n = take_all (length s - n) (drop n s) (omega (arith, length-drop n s))

-- ---- decimals, by length

pub one-is : (s : List ℕ) → length s ≡ 1 → hundredths_of s ≡ pick (eqb (get_or s 0 0) PERCENT) (some 0) none
unfolding hundredths_of
one-is [] h = absurd (omega arith)
one-is (a ∷ []) h = refl
one-is (a ∷ b ∷ s) h = absurd (omega arith)

pub three-is : (s : List ℕ) → length s ≡ 3 → hundredths_of s ≡ pick (both (eqb (get_or s 0 0) DOT) (both (digit (get_or s 1 0)) (eqb (get_or s 2 0) PERCENT))) (some ((get_or s 1 0 - 48) * 10)) none
unfolding hundredths_of
three-is [] h = absurd (omega arith)
three-is (a ∷ []) h = absurd (omega arith)
three-is (a ∷ b ∷ []) h = absurd (omega arith)
three-is (a ∷ b ∷ c ∷ []) h = refl
three-is (a ∷ b ∷ c ∷ d ∷ s) h = absurd (omega arith)

pub four_is : (s : List ℕ) → length s ≡ 4
    → hundredths_of s ≡ pick (both (eqb (get_or s 0 0) DOT) (both (digit (get_or s 1 0)) (both (digit (get_or s 2 0)) (eqb (get_or s 3 0) PERCENT)))) (some ((get_or s 1 0 - 48) * 10 + (get_or s 2 0 - 48))) none
unfolding hundredths_of
four_is [] h = absurd (omega arith)
four_is (a ∷ []) h = absurd (omega arith)
four_is (a ∷ b ∷ []) h = absurd (omega arith)
four_is (a ∷ b ∷ c ∷ []) h = absurd (omega arith)
four_is (a ∷ b ∷ c ∷ d ∷ []) h = refl
four_is (a ∷ b ∷ c ∷ d ∷ e ∷ s) h = absurd (omega arith)

pub other-is : (s : List ℕ) → (length s ≡ 1 → ⊥) → (length s ≡ 3 → ⊥) → (length s ≡ 4 → ⊥) → hundredths_of s ≡ none
unfolding hundredths_of
other-is [] f g h = refl
other-is (a ∷ []) f g h = absurd (f refl)
other-is (a ∷ b ∷ []) f g h = refl
other-is (a ∷ b ∷ c ∷ []) f g h = absurd (g refl)
other-is (a ∷ b ∷ c ∷ d ∷ []) f g h = absurd (h refl)
other-is (a ∷ b ∷ c ∷ d ∷ e ∷ s) f g h = refl

-- ---- percentages: v is the number of the digits, or 40,000 where it is more

module _ (s : List ℕ) (n v : ℕ) (count : n ≡ length (front digit s)) (number : v ≡ min (value (front digit s)) 40000) where
  pub no-percents : n ≡ 0 → percent_of s ≡ none
  unfolding percent_of
  no-percents h = rw (lt-leb 1 (length (front digit s)) (omega arith))

  whole_is : (n ≡ 0 → ⊥) → percent_of s ≡ in_all (value (front digit s)) (hundredths_of (take (length s - n) (drop n s)))
  unfolding percent_of
  whole_is h =
      rw (le-leb 1 (length (front digit s)) (omega arith), behind-drop digit s, ← count, lent s n)

  pub no-decimals : (n ≡ 0 → ⊥) → hundredths_of (take (length s - n) (drop n s)) ≡ none → percent_of s ≡ none
  no-decimals h e = whole_is h ∙ ap (in_all (value (front digit s))) e

  pub too_much : (n ≡ 0 → ⊥) → (h : ℕ) → hundredths_of (take (length s - n) (drop n s)) ≡ some h → 10000 < v * 100 + h → percent_of s ≡ none
  too_much k h e l = whole_is k ∙ ap (in_all (value (front digit s))) e ∙ rw (lt-leb (value (front digit s) * 100 + h) 10000 (omega (arith, number)))

  pub percent-is : (n ≡ 0 → ⊥) → (h : ℕ) → hundredths_of (take (length s - n) (drop n s)) ≡ some h → v * 100 + h ≤ 10000 → percent_of s ≡ some (v * 100 + h)
  percent-is k h e l =
      let q : value (front digit s) ≡ v = omega (arith, number) in
      whole_is k ∙ ap (in_all (value (front digit s))) e ∙ rw (q, le-leb (v * 100 + h) 10000 l)

  -- ---- whole numbers

  module _ (most : ℕ) (few : most < 40000) (sign : ℕ → ℤ) where
    pub no-digits : length s ≡ 0 → number_of most sign s ≡ Auto
    unfolding number_of
    no-digits h = rw (lt-leb 1 (length s) (omega arith))

    pub more-than-digits : n < length s → number_of most sign s ≡ Auto
    unfolding number_of
    more-than-digits h =
        rw (lt-leb (length s) (length (front digit s)) (omega arith), both-no (leb 1 (length s)))

    all_digits : length s ≤ n → front digit s ≡ s
    all_digits h = front-take digit s ∙ take_all (length (front digit s)) s (omega arith)

    pub too_large : most < v → number_of most sign s ≡ Auto
    unfolding number_of
    too_large l =
        by-test (leb (length s) (length (front digit s)))
        (λ e. let k = leb-true (length s) (length (front digit s)) e in let q = ap value (all_digits (omega arith)) in
        rw (lt-leb (value s) most (omega (arith, number, q)), both-no (leb (length s) (length (front digit s))), both-no (leb 1 (length s))))
        (λ e. rw (e, both-no (leb 1 (length s))))

    pub number_is : 1 ≤ length s → length s ≤ n → v ≤ most → number_of most sign s ≡ Number (sign v)
    unfolding number_of
    number_is h k l =
        let q = ap value (all_digits k) in
        let e : value s ≡ v = omega (arith, number, q) in
        rw (le-leb 1 (length s) h, le-leb (length s) (length (front digit s)) (omega arith), e, le-leb v most l)

-- ---- a value that is none has no alignment

pub line-unaligned : (l : Line) → as_line l none ≡ Malformed
line-unaligned Auto = refl
line-unaligned (Number n) = refl
line-unaligned (LinePercent p) = refl

pub position-unaligned : (p : Option ℕ) → as_position p none ≡ Malformed
position-unaligned none = refl
position-unaligned (some p) = refl

-- ---- a number behind a minus sign

pub minus_is : (v : ℕ) → pos 0 -ℤ pos v ≡ neg_ℤ (pos v)
minus_is zero = refl
minus_is (suc n) = let e : suc n - 1 ≡ n = omega arith in rw (e, lt-ltb 0 (suc n) (omega arith))

pub minus-fits : (w : Width) (v : ℕ) → v ≤ 2 ^ hbits w → SFits w (neg_ℤ (pos v))
minus-fits w zero h = record { sfits = pow_pos (hbits w) }
minus-fits w (suc n) h = record { sfits = h }

-- ---- strings

both-assoc : (a b c : Bool) → both (both a b) c ≡ both a (both b c)
both-assoc true b c = refl
both-assoc false b c = refl

-- a byte more agrees
pub agrees-more : (p s : List ℕ) (i : ℕ) → i < length p → length p ≤ length s → both (starts_with (take i p) s) (eqb (get_or s i 0) (get_or p i 0)) ≡ starts_with (take (i + 1) p) s
unfolding starts_with
agrees-more p s i h l = let e : i + 1 ≡ suc i = omega arith in rw e (go p s i h l)
  where
    go : (p s : List ℕ) (i : ℕ) → i < length p → length p ≤ length s → both (starts_with (take i p) s) (eqb (get_or s i 0) (get_or p i 0)) ≡ starts_with (take (suc i) p) s
    go [] s i h l = absurd (omega arith)
    go (x ∷ p) [] i h l = absurd (omega arith)
    go (x ∷ p) (b ∷ s) zero h l = sym (both_yes (eqb b x))
    go (x ∷ p) (b ∷ s) (suc i) h l = (both-assoc (eqb b x) (starts_with (take i p) s) (eqb (get_or s i 0) (get_or p i 0))) ∙ ap (both (eqb b x)) (go p s i (omega arith) (omega arith))

pub begins-none : (s : List ℕ) → true ≡ starts_with [] s
unfolding starts_with
begins-none s = refl

-- a text that is shorter does not begin with the string
pub shorter-not : (p s : List ℕ) → length s < length p → false ≡ starts_with p s
unfolding starts_with
shorter-not [] s h = absurd (omega arith)
shorter-not (x ∷ p) [] h = refl
shorter-not (x ∷ p) (b ∷ s) h = sym (rw (sym (shorter-not p s (omega arith))) (both-no (eqb b x)))

-- strings of one length are the same exactly where one begins with the other; of another length they are not
pub same-begins : (s w : List ℕ) → length s ≡ length w → starts_with w s ≡ same_list s w
unfolding starts_with same_list
same-begins [] [] h = refl
same-begins [] (x ∷ w) h = absurd (omega arith)
same-begins (b ∷ s) [] h = absurd (omega arith)
same-begins (b ∷ s) (x ∷ w) h = ap (both (eqb b x)) (same-begins s w (omega arith))

pub other_length : (s w : List ℕ) → (length s ≡ length w → ⊥) → false ≡ same_list s w
other_length s w h = by-test (same_list s w) (λ e. absurd (h (ap length (same-list s w e)))) (λ e. sym e)

-- ---- a line, by its first byte and the digits that it begins with

pub line-none : (s : List ℕ) → length s ≡ 0 → line_of s ≡ Auto
unfolding line_of
line-none [] h = refl
line-none (b ∷ s) h = absurd (omega arith)

pub line-minus : (s : List ℕ) → (length s ≡ 0 → ⊥) → get_or s 0 0 ≡ DASH → line_of s ≡ number_of 32768 (λ n. neg_ℤ (pos n)) (take (length s - 1) (drop 1 s))
unfolding line_of
line-minus [] h e = absurd (h refl)
line-minus (b ∷ s) h e = rw (eq-eqb b DASH e) (ap (number_of 32768 (λ n. neg_ℤ (pos n))) (sym (lent (b ∷ s) 1)))

module _ (n : ℕ) where
  pub line-number : (s : List ℕ) → n ≡ length (front digit s) → (length s ≡ 0 → ⊥) → (get_or s 0 0 ≡ DASH → ⊥) → length s ≤ n → line_of s ≡ number_of 32767 pos s
  unfolding line_of
  line-number [] c h d l = absurd (h refl)
  line-number (b ∷ s) c h d l = rw (ne_eqb b DASH d, behind-drop digit (b ∷ s), ← c, drop_of_length-le (b ∷ s) l)

  pub line-percent : (s : List ℕ) → n ≡ length (front digit s) → (length s ≡ 0 → ⊥) → (get_or s 0 0 ≡ DASH → ⊥) → n < length s → line_of s ≡ line_percent (percent_of s)
  unfolding line_of
  line-percent [] c h d l = absurd (h refl)
  line-percent (b ∷ s) c h d l = rw (ne_eqb b DASH d, behind-drop digit (b ∷ s), ← c, ne_eqb (length (drop n (b ∷ s))) 0 (λ q. absurd (omega (arith, length-drop n (b ∷ s)))))

-- ---- a value before the first comma, and the alignment behind it

module _ (s : List ℕ) (k : ℕ) (is : k ≡ length (front not_comma s)) where
  before-comma : front not_comma s ≡ take k s
  before-comma = front-take not_comma s ∙ ap (λ (n : ℕ). take n s) (sym is)

  no-comma : k ≡ length s → behind not_comma s ≡ []
  no-comma h = behind-drop not_comma s ∙ ap (λ (n : ℕ). drop n s) (sym is) ∙ drop_of_length-le s {i = k} (omega arith)

  past-comma : k < length s → behind not_comma s ≡ get_or s k 0 ∷ take (length s - (k + 1)) (drop (k + 1) s)
  past-comma h =
      let e : suc k ≡ k + 1 = omega arith in
      behind-drop not_comma s ∙ ap (λ (n : ℕ). drop n s) (sym is) ∙ drop-cons s k 0 h ∙ ap (λ (n : ℕ). get_or s k 0 ∷ drop n s) e ∙ ap (λ (x : List ℕ). get_or s k 0 ∷ x) (sym (lent s (k + 1)))

  module _ (l : Line) (e : l ≡ line_of (take k s)) where
    pub line_plain : k ≡ length s → as_line l (some LineStart) ≡ line_parsed s
    unfolding line_parsed
    line_plain h = rw (before-comma, no-comma h, e)

    pub line-edged : k < length s → as_line l (word_in line_word line_aligns (take (length s - (k + 1)) (drop (k + 1) s))) ≡ line_parsed s
    unfolding line_parsed
    line-edged h = rw (before-comma, past-comma h, e)

  module _ (o : Option ℕ) (e : o ≡ percent_of (take k s)) where
    pub position-plain : k ≡ length s → as_position o (some PositionAuto) ≡ position_parsed s
    unfolding position_parsed
    position-plain h = rw (before-comma, no-comma h, e)

    pub position-edged : k < length s → as_position o (word_in position_word position_aligns (take (length s - (k + 1)) (drop (k + 1) s))) ≡ position_parsed s
    unfolding position_parsed
    position-edged h = rw (before-comma, past-comma h, e)

-- ---- a run that reaches a place

in-run : (p : ℕ → Bool) (s : List ℕ) (i : ℕ) → i < length (front p s) → p (get_or s i 0) ≡ true
unfolding front
in-run p [] i h = absurd (omega arith)
in-run p (b ∷ s) zero h = by-test (p b) (λ e. e) (λ f. let k : 0 < 0 = rw f at h in absurd (omega arith))
in-run p (b ∷ s) (suc i) h = by-test (p b)
    (λ e. let k : suc i < suc (length (front p s)) = rw e at h in in-run p s i (omega arith))
    (λ f. let k : suc i < 0 = rw f at h in absurd (omega arith))

past-run : (p : ℕ → Bool) (s : List ℕ) (i : ℕ) → i < length s → i ≡ length (front p s) → p (get_or s i 0) ≡ false
unfolding front
past-run p [] i h e = absurd (omega arith)
past-run p (b ∷ s) zero h e = by-test (p b) (λ t. let k : 0 ≡ suc (length (front p s)) = rw t at e in absurd (omega arith)) (λ f. f)
past-run p (b ∷ s) (suc i) h e = by-test (p b)
    (λ t. let k : suc i ≡ suc (length (front p s)) = rw t at e in past-run p s i (omega arith) (omega arith))
    (λ f. let k : suc i ≡ 0 = rw f at e in absurd (omega arith))

pub run-reaches : (p : ℕ → Bool) (s : List ℕ) (i : ℕ) → i < length s → both (leb i (length (front p s))) (p (get_or s i 0)) ≡ leb (i + 1) (length (front p s))
run-reaches p s i h =
    either (i + 1) (length (front p s))
    (λ l. rw (le-leb i (length (front p s)) (omega arith), le-leb (i + 1) (length (front p s)) l) (in-run p s i (omega arith)))
    (λ l. either i (length (front p s))
    (λ k. let e : i ≡ length (front p s) = omega arith in rw (lt-leb (i + 1) (length (front p s)) l, le-leb i (length (front p s)) k) (past-run p s i h e))
    (λ k. rw (lt-leb (i + 1) (length (front p s)) l, lt-leb i (length (front p s)) k)))
