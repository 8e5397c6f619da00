-- The definitions read exactly the values of the grammar.
use Prim.Native.Nat.{ℕ, suc, ◌+◌, ◌-◌, ◌*◌, ◌≤◌}
use mathlib.Core.Path.{◌≡◌, refl, sym, ap, ◌∙◌, subst}
use mathlib.Core.Logic.{◌⊎◌, inl, inr}
use mathlib.Core.Bool.{true, false}
use mathlib.Core.Option.{Option, none, some}
use mathlib.Core.List.{List, [], ◌∷◌, ◌++◌, Memᴰ}
use native.Mathlib.Omega.{arith}
use native.Mathlib.Nat.{add-zero}
use lib.Dec.{eqb, leb}
use lib.IntN.{ℤ, pos, neg_ℤ}
use lib.ListN.{length}
use borrow.Author.Tests.{eqb-true, ne_eqb, le-leb, leb-true}
use Rattle.base.specs.Choice.{both, within, same_list}
use Rattle.base.proofs.Choice.{by-test, both_left, both_right, same-list}
use Rattle.decimal.specs.Decimal.{value}
use Rattle.utf8.specs.Strings.{DASH}
use Rattle.timestamps.specs.Timestamps.{All, DOT, digit, front, behind}
use Rattle.timestamps.proofs.Laws.{digit-bounds}
use Rattle.timestamps.proofs.Runs.{all_append, all-front, front-stop, front-all, behind-stop, behind-all, front-behind}
use Rattle.settings.specs.declared.Line.{Line}
use Rattle.settings.specs.declared.Line.TheVariants.{Auto, Number}
use Rattle.settings.specs.Words.{COMMA, PERCENT}
use Rattle.settings.specs.Grammar.{Digits, plain, minus, Percentage, whole, tenths, hundredths, LineAt, number, percent}
use Rattle.settings.specs.Reading.{word_in, number_of, hundredths_of, in_all, percent_of, line_percent, line_of, not_comma}
use Rattle.settings.proofs.Texts.{all_so, all_whole}

-- ---- words

-- the value whose word was found is one of those that may be written
pub word-found : {A : Type 0} (word : A → List ℕ) (as' : List A) (w : List ℕ) (a : A) → word_in word as' w ≡ some a → Memᴰ a as' × (w ≡ word a)
unfolding word_in
word-found word [] w a e = let z : ◌≡◌ {A = ℕ} 0 1 = cc in absurd (omega arith)
word-found word (x ∷ rest) w a e =
    by-test (same_list w (word x))
    (λ t. let q : some x ≡ some a = rw t at e in let r : a ≡ x = cc in (Memᴰ.head r, rw r (same-list w (word x) t)))
    (λ f. let r = word-found word rest w a (rw f at e) in (Memᴰ.tail r.0, r.1))

-- ---- no comma stands in a number or a percentage

digits-comma : (ds : List ℕ) → All digit ds → All not_comma ds
unfolding not_comma
digits-comma ds h = all_so digit not_comma no-comma ds h
  where
    no-comma : (b : ℕ) → digit b ≡ true → not_comma b ≡ true
    no-comma b k = let r = digit-bounds b k in rw (ne_eqb b COMMA (omega (arith, r.0)))

-- a digit, and then the rest
digits-then : (a : ℕ) (s : List ℕ) → digit a ≡ true → All not_comma s → All not_comma (a ∷ s)
digits-then a s h k = ((digits-comma (a ∷ []) (h, tt)).0, k)

pub percent-comma : {p : ℕ} {w : List ℕ} → Percentage p w → All not_comma w
unfolding not_comma
percent-comma (whole ds h l) = all_append not_comma ds (PERCENT ∷ []) (digits-comma ds h.0) (refl, tt)
percent-comma (tenths ds a h k l) = all_append not_comma ds (DOT ∷ a ∷ PERCENT ∷ []) (digits-comma ds h.0) (refl, digits-then a (PERCENT ∷ []) k (refl, tt))
percent-comma (hundredths ds a b h j k l) = all_append not_comma ds (DOT ∷ a ∷ b ∷ PERCENT ∷ []) (digits-comma ds h.0) (refl, digits-then a (b ∷ PERCENT ∷ []) j (digits-then b (PERCENT ∷ []) k (refl, tt)))

pub line-comma : {l : Line} {w : List ℕ} → LineAt l w → All not_comma w
unfolding not_comma
line-comma (number (plain ds h l)) = digits-comma ds h.0
line-comma (number (minus ds h l)) = (refl, digits-comma ds h.0)
line-comma (percent h) = percent-comma h

-- ---- percentages

-- digits, and what stands behind them
module _ (ds : List ℕ) (h : Digits ds) (x : ℕ) (r : List ℕ) (k : digit x ≡ false) where
  percent-split : percent_of (ds ++ x ∷ r) ≡ in_all (value ds) (hundredths_of (x ∷ r))
  unfolding percent_of
  percent-split = rw (front-stop digit ds x r h.0 k, behind-stop digit ds x r h.0 k, le-leb 1 (length ds) h.1)

pub percent-read : {p : ℕ} {w : List ℕ} → Percentage p w → percent_of w ≡ some p
unfolding hundredths_of digit within
percent-read (whole ds h l) = percent-split ds h PERCENT [] refl ∙ rw (add-zero (value ds * 100), le-leb (value ds * 100) 10000 l)
percent-read (tenths ds a h k l) = percent-split ds h DOT (a ∷ PERCENT ∷ []) refl ∙ rw (k, le-leb (value ds * 100 + (a - 0x30) * 10) 10000 l)
percent-read (hundredths ds a b h j k l) = percent-split ds h DOT (a ∷ b ∷ PERCENT ∷ []) refl ∙ rw (j, k, le-leb (value ds * 100 + ((a - 0x30) * 10 + (b - 0x30))) 10000 l)

-- within the limit
in_all_lem : (v h p : ℕ) → in_all v (some h) ≡ some p → (v * 100 + h ≤ 10000) × (v * 100 + h ≡ p)
in_all_lem v h p e =
    by-test (leb (v * 100 + h) 10000)
    (λ t. let q : some (v * 100 + h) ≡ some p = rw t at e in let r : v * 100 + h ≡ p = cc in (leb-true (v * 100 + h) 10000 t, r))
    (λ f. let q : ◌≡◌ {A = Option ℕ} none (some p) = rw f at e in let z : ◌≡◌ {A = ℕ} 0 1 = cc in absurd (omega arith))

module _ (ds : List ℕ) (h : Digits ds) (p : ℕ) where
  -- nothing is within the limit where there are no decimals
  nothing : {X : Type 0} → in_all (value ds) none ≡ some p → X
  nothing e = let z : ◌≡◌ {A = ℕ} 0 1 = cc in absurd (omega arith)

  decimals-said : (r : List ℕ) → in_all (value ds) (hundredths_of r) ≡ some p → Percentage p (ds ++ r)
  unfolding hundredths_of digit
  decimals-said [] e = nothing e
  decimals-said (a ∷ []) e =
      by-test (eqb a PERCENT)
      (λ t. let q = eqb-true a PERCENT t in let i = in_all_lem (value ds) 0 p (rw t at e) in
      rw q (subst (λ (n : ℕ). Percentage n (ds ++ PERCENT ∷ [])) (sym (add-zero (value ds * 100)) ∙ i.1) (whole ds h (omega (arith, i.0)))))
      (λ f. nothing (rw f at e))
  decimals-said (a ∷ b ∷ []) e = nothing e
  decimals-said (a ∷ b ∷ c ∷ []) e =
      by-test (both (eqb a DOT) (both (digit b) (eqb c PERCENT)))
      (λ t. let u = both_right (eqb a DOT) (both (digit b) (eqb c PERCENT)) t in
      let q = eqb-true a DOT (both_left (eqb a DOT) (both (digit b) (eqb c PERCENT)) t) in
      let r = eqb-true c PERCENT (both_right (digit b) (eqb c PERCENT) u) in
      let i = in_all_lem (value ds) ((b - 0x30) * 10) p (rw t at e) in
      rw (q, r) (subst (λ (n : ℕ). Percentage n (ds ++ DOT ∷ b ∷ PERCENT ∷ [])) i.1 (tenths ds b h (both_left (digit b) (eqb c PERCENT) u) i.0)))
      (λ f. nothing (rw f at e))
  decimals-said (a ∷ b ∷ c ∷ d ∷ []) e =
      by-test (both (eqb a DOT) (both (digit b) (both (digit c) (eqb d PERCENT))))
      (λ t. let u = both_right (eqb a DOT) (both (digit b) (both (digit c) (eqb d PERCENT))) t in
      let v = both_right (digit b) (both (digit c) (eqb d PERCENT)) u in
      let q = eqb-true a DOT (both_left (eqb a DOT) (both (digit b) (both (digit c) (eqb d PERCENT))) t) in
      let r = eqb-true d PERCENT (both_right (digit c) (eqb d PERCENT) v) in
      let i = in_all_lem (value ds) ((b - 0x30) * 10 + (c - 0x30)) p (rw t at e) in
      rw (q, r) (subst (λ (n : ℕ). Percentage n (ds ++ DOT ∷ b ∷ c ∷ PERCENT ∷ [])) i.1 (hundredths ds b c h (both_left (digit b) (both (digit c) (eqb d PERCENT)) u) (both_left (digit c) (eqb d PERCENT) v) i.0)))
      (λ f. nothing (rw f at e))
  decimals-said (a ∷ b ∷ c ∷ d ∷ x ∷ r) e = nothing e

pub percent-says : (w : List ℕ) (p : ℕ) → percent_of w ≡ some p → Percentage p w
unfolding percent_of
percent-says w p e =
    by-test (leb 1 (length (front digit w)))
    (λ t. subst (Percentage p) (front-behind digit w) (decimals-said (front digit w) (all-front digit w, leb-true 1 (length (front digit w)) t) p (behind digit w) (rw t at e)))
    (λ f. let q : ◌≡◌ {A = Option ℕ} none (some p) = rw f at e in let z : ◌≡◌ {A = ℕ} 0 1 = cc in absurd (omega arith))

-- ---- whole numbers

pub number_read : (most : ℕ) (sign : ℕ → ℤ) (ds : List ℕ) → Digits ds → value ds ≤ most → number_of most sign ds ≡ Number (sign (value ds))
unfolding number_of
number_read most sign ds h l = rw (front-all digit ds h.0, le-leb 1 (length ds) h.1, le-leb (length ds) (length ds) (omega arith), le-leb (value ds) most l)

pub number-says : (most : ℕ) (sign : ℕ → ℤ) (ds : List ℕ) → (number_of most sign ds ≡ Auto) ⊎ (Digits ds × (value ds ≤ most) × (number_of most sign ds ≡ Number (sign (value ds))))
unfolding number_of
number-says most sign ds =
    by-test (both (leb 1 (length ds)) (both (leb (length ds) (length (front digit ds))) (leb (value ds) most)))
    (λ t. let u = both_right (leb 1 (length ds)) (both (leb (length ds) (length (front digit ds))) (leb (value ds) most)) t in
    inr ((all_whole digit ds (both_left (leb (length ds) (length (front digit ds))) (leb (value ds) most) u), leb-true 1 (length ds) (both_left (leb 1 (length ds)) _ t)), leb-true (value ds) most (both_right (leb (length ds) (length (front digit ds))) (leb (value ds) most) u), rw t))
    (λ f. inl (rw f))

-- ---- lines

digit-dash : (b : ℕ) → digit b ≡ true → eqb b DASH ≡ false
digit-dash b h = let r = digit-bounds b h in ne_eqb b DASH (λ e. absurd (omega (arith, r.0, e)))

-- a percentage begins with a digit, and more than digits stand in it
percent-begins : (ds : List ℕ) (x : ℕ) (r : List ℕ) → Digits ds → digit x ≡ false → line_of (ds ++ x ∷ r) ≡ line_percent (percent_of (ds ++ x ∷ r))
unfolding line_of
percent-begins [] x r h k = absurd (omega (arith, h.1))
percent-begins (b ∷ ds) x r h k = rw (digit-dash b h.0.0, behind-stop digit (b ∷ ds) x r h.0 k, ne_eqb (suc (length r)) 0 (λ e. absurd (omega arith)))

pub line_read : {l : Line} {w : List ℕ} → LineAt l w → line_of w ≡ l
unfolding line_of digit within
line_read (number (plain [] h l)) = absurd (omega (arith, h.1))
line_read (number (plain (b ∷ ds) h l)) = rw (digit-dash b h.0.0, behind-all digit (b ∷ ds) h.0) (number_read 32767 pos (b ∷ ds) h l)
line_read (number (minus ds h l)) = number_read 32768 (λ n. neg_ℤ (pos n)) ds h l
line_read (percent (whole ds h l)) = percent-begins ds PERCENT [] h refl ∙ ap line_percent (percent-read (whole ds h l))
line_read (percent (tenths ds a h k l)) = percent-begins ds DOT (a ∷ PERCENT ∷ []) h refl ∙ ap line_percent (percent-read (tenths ds a h k l))
line_read (percent (hundredths ds a b h j k l)) = percent-begins ds DOT (a ∷ b ∷ PERCENT ∷ []) h refl ∙ ap line_percent (percent-read (hundredths ds a b h j k l))

-- a line is none, or one of the grammar
pub line-says : (w : List ℕ) → (line_of w ≡ Auto) ⊎ LineAt (line_of w) w
unfolding line_of
line-says [] = inl refl
line-says (b ∷ w) =
    by-test (eqb b DASH)
    (λ t. rw (eqb-true b DASH t) (signed (number-says 32768 (λ n. neg_ℤ (pos n)) w)))
    (λ f. rw f (by-test (eqb (length (behind digit (b ∷ w))) 0) (λ t. rw t (unsigned (number-says 32767 pos (b ∷ w)))) (λ g. rw g (parts (percent_of (b ∷ w)) refl))))
  where
    signed : (number_of 32768 (λ n. neg_ℤ (pos n)) w ≡ Auto) ⊎ (Digits w × (value w ≤ 32768) × (number_of 32768 (λ n. neg_ℤ (pos n)) w ≡ Number (neg_ℤ (pos (value w)))))
        → (number_of 32768 (λ n. neg_ℤ (pos n)) w ≡ Auto) ⊎ LineAt (number_of 32768 (λ n. neg_ℤ (pos n)) w) (DASH ∷ w)
    signed (inl e) = inl e
    signed (inr (h, l, e)) = inr (rw e (number (minus w h l)))

    unsigned : (number_of 32767 pos (b ∷ w) ≡ Auto) ⊎ (Digits (b ∷ w) × (value (b ∷ w) ≤ 32767) × (number_of 32767 pos (b ∷ w) ≡ Number (pos (value (b ∷ w)))))
        → (number_of 32767 pos (b ∷ w) ≡ Auto) ⊎ LineAt (number_of 32767 pos (b ∷ w)) (b ∷ w)
    unsigned (inl e) = inl e
    unsigned (inr (h, l, e)) = inr (rw e (number (plain (b ∷ w) h l)))

    parts : (o : Option ℕ) → percent_of (b ∷ w) ≡ o → (line_percent (percent_of (b ∷ w)) ≡ Auto) ⊎ LineAt (line_percent (percent_of (b ∷ w))) (b ∷ w)
    parts none e = inl (ap line_percent e)
    parts (some p) e = inr (rw e (percent (percent-says (b ∷ w) p e)))
