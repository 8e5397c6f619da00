-- A word is read as a setting exactly if it says one.
use Prim.Native.Nat.{ℕ, ◌+◌, ◌≤◌}
use mathlib.Core.Path.{◌≡◌, refl, sym, ap, ◌∙◌, subst}
use mathlib.Core.Logic.{◌⊎◌, inl, inr}
use mathlib.Core.Bool.{true, false, not}
use mathlib.Core.Option.{Option, none, some}
use mathlib.Core.List.Memᴰ
use mathlib.Core.List.{List, [], ◌∷◌, ◌++◌, append-nil, Memᴰ}
use native.Mathlib.Omega.{arith}
use lib.Dec.{eqb, leb}
use lib.ListN.{length}
use borrow.Author.Tests.{le-leb, leb-true, eqb-true, not-false}
use Rattle.base.specs.Choice.{both, within, same_list}
use Rattle.base.proofs.Choice.{by-test, true-false, both_left, both_right}
use Rattle.utf8.specs.Strings.{GREATER, starts_with}
use Rattle.utf8.proofs.Strings.{split}
use Rattle.utf8.proofs.Ranges.{in-range}
use Rattle.timestamps.specs.Timestamps.{All, front, behind}
use Rattle.timestamps.proofs.Runs.{all_append, front-all, behind-all, front-stop, behind-stop, front-behind, behind-begins}
use Rattle.vtt_timing.specs.Timing.{blank, unblank}
use Rattle.vtt_timing.proofs.Grammar.{high-unblank}
use Rattle.settings.specs.declared.Vertical.{Vertical}
use Rattle.settings.specs.declared.Vertical.TheVariants.{Rl, Lr}
use Rattle.settings.specs.declared.Line.{Line}
use Rattle.settings.specs.declared.Line.TheVariants.{Auto as LineAuto}
use Rattle.settings.specs.declared.LineAlign.{LineAlign}
use Rattle.settings.specs.declared.LineAlign.TheVariants.{Start as LineStart, Center as LineCenter, End as LineEnd}
use Rattle.settings.specs.declared.Position.TheVariants.{Percent}
use Rattle.settings.specs.declared.PositionAlign.{PositionAlign}
use Rattle.settings.specs.declared.PositionAlign.TheVariants.{Auto as PositionAuto, LineLeft, Center as PositionCenter, LineRight}
use Rattle.settings.specs.declared.Align.{Align}
use Rattle.settings.specs.declared.Align.TheVariants.{Start, Center, End, Left, Right}
use Rattle.settings.specs.Word.{Word, ToVertical, ToLine, ToPosition, ToSize, ToAlign, ToRegion, Malformed}
use Rattle.settings.specs.Words.{SPACE, TAB, COMMA, VERTICAL, LINE, POSITION, SIZE, ALIGN, REGION, verticals, vertical_word, line_aligns, line_word, position_aligns, position_word, aligns, align_word}
use Rattle.settings.specs.Grammar.{Percentage, LineAt, number, percent, named, Setting, vertical, line, position, size, align, region, Says, is_vertical, is_line, is_aligned_line, is_position, is_aligned_position, is_size, is_align, is_region}
use Rattle.settings.specs.Reading.{word_in, percent_of, line_of, as_vertical, as_align, as_size, as_line, not_comma, aligned_by, line_parsed, position_parsed, region_parsed, parsed}
use Rattle.settings.proofs.Texts.{all_so, all_whole, safe}
use Rattle.settings.proofs.Form.{vertical-safe, line-word-safe, position-word-safe, align-safe, percent-safe, line-at-safe}
use Rattle.settings.proofs.Values.{word-found, percent-comma, percent-read, percent-says, line-comma, line_read, line-says}

-- a setting as it is read from a word at place p
abbrev pub coded : ℕ → Setting → Word
coded p (vertical v) = ToVertical v
coded p (line l a) = ToLine l a
coded p (position q a) = ToPosition q a
coded p (size q) = ToSize q
coded p (align a) = ToAlign a
coded p (region w) = ToRegion (p + 7) (p + 7 + length w)

-- ---- a word that says a setting is read as it

-- a line of the grammar with its alignment
with-line : {l : Line} {w : List ℕ} (a : LineAlign) → LineAt l w → as_line l (some a) ≡ ToLine l a
with-line a (number h) = refl
with-line a (percent h) = refl

-- an alignment that is none
unaligned : {l : Line} {w : List ℕ} → LineAt l w → as_line l none ≡ Malformed
unaligned (number h) = refl
unaligned (percent h) = refl

comma-not : not_comma COMMA ≡ false
unfolding not_comma
comma-not = refl

line_plain : {l : Line} {w : List ℕ} → LineAt l w → line_parsed w ≡ ToLine l LineStart
unfolding line_parsed
line_plain {w = w} h = rw (front-all not_comma w (line-comma h), behind-all not_comma w (line-comma h), line_read h) (with-line LineStart h)

line_word_lem : (a : LineAlign) → word_in line_word line_aligns (line_word a) ≡ some a
unfolding word_in same_list
line_word_lem LineStart = refl
line_word_lem LineCenter = refl
line_word_lem LineEnd = refl

line-edged : {l : Line} {w : List ℕ} (a : LineAlign) → LineAt l w → line_parsed (w ++ COMMA ∷ line_word a) ≡ ToLine l a
unfolding line_parsed
line-edged {w = w} a h =
    rw (front-stop not_comma w COMMA (line_word a) (line-comma h) comma-not, behind-stop not_comma w COMMA (line_word a) (line-comma h) comma-not, line_read h, line_word_lem a) (with-line a h)

position-plain : {p : ℕ} {w : List ℕ} → Percentage p w → position_parsed w ≡ ToPosition (Percent p) PositionAuto
unfolding position_parsed
position-plain {w = w} h = rw (front-all not_comma w (percent-comma h), behind-all not_comma w (percent-comma h), percent-read h)

-- one of two, of three
two_cases : {A : Type 0} (P : A → Type 0) (a b x : A) → Memᴰ x (a ∷ b ∷ []) → P a → P b → P x
two_cases P a b x m f g = go (Memᴰ.cases_cons m)
  where
    last : (x ≡ b) ⊎ Memᴰ x [] → P x
    last (inl e) = subst P (sym e) g
    last (inr n) = absurd (Memᴰ.not-nil n)

    go : (x ≡ a) ⊎ Memᴰ x (b ∷ []) → P x
    go (inl e) = subst P (sym e) f
    go (inr n) = last (Memᴰ.cases_cons n)

three-cases : {A : Type 0} (P : A → Type 0) (a b c x : A) → Memᴰ x (a ∷ b ∷ c ∷ []) → P a → P b → P c → P x
three-cases P a b c x m f g h = go (Memᴰ.cases_cons m)
  where
    go : (x ≡ a) ⊎ Memᴰ x (b ∷ c ∷ []) → P x
    go (inl e) = subst P (sym e) f
    go (inr n) = two_cases P b c x n g h

position-word : (a : PositionAlign) → Memᴰ a position_aligns → word_in position_word position_aligns (position_word a) ≡ some a
unfolding word_in same_list
position-word a m = three-cases (λ (x : PositionAlign). word_in position_word position_aligns (position_word x) ≡ some x) LineLeft PositionCenter LineRight a m refl refl refl

position-edged : {p : ℕ} {w : List ℕ} (a : PositionAlign) → Memᴰ a position_aligns → Percentage p w → position_parsed (w ++ COMMA ∷ position_word a) ≡ ToPosition (Percent p) a
unfolding position_parsed
position-edged {w = w} a m h =
    rw (front-stop not_comma w COMMA (position_word a) (percent-comma h) comma-not, behind-stop not_comma w COMMA (position_word a) (percent-comma h) comma-not, percent-read h, position-word a m)

align_word_lem : (a : Align) → word_in align_word aligns (align_word a) ≡ some a
unfolding word_in same_list
align_word_lem Start = refl
align_word_lem Center = refl
align_word_lem End = refl
align_word_lem Left = refl
align_word_lem Right = refl

region-read : (p : ℕ) (w : List ℕ) → All named w → 1 ≤ length w → region_parsed p w ≡ ToRegion p (p + length w)
unfolding region_parsed
region-read p w h k = rw (front-all named w h, le-leb 1 (length w) k, le-leb (length w) (length w) (omega arith))

pub says-read : (p : ℕ) (t : Setting) (w : List ℕ) → Says t w → parsed p w ≡ coded p t
unfolding parsed starts_with word_in same_list
says-read p t w (is_vertical v m) = two_cases (λ (x : Vertical). parsed p (VERTICAL ++ vertical_word x) ≡ ToVertical x) Rl Lr v m refl refl
says-read p t w (is_line h) = line_plain h
says-read p t w (is_aligned_line a h) = line-edged a h
says-read p t w (is_position h) = position-plain h
says-read p t w (is_aligned_position a m h) = position-edged a m h
says-read p t w (is_size h) = ap as_size (percent-read h)
says-read p t w (is_align a) = ap as_align (align_word_lem a)
says-read p t w (is_region v h k) = region-read (p + 7) v h k

-- ---- a word that is read as a setting says it

abbrev pub Spoken : ℕ → List ℕ → Type 0
Spoken p w = (parsed p w ≡ Malformed) ⊎ ((t : Setting) × Says t w × (parsed p w ≡ coded p t))

vertical-spoken : (p : ℕ) (b : List ℕ) → Spoken p (VERTICAL ++ b)
unfolding parsed starts_with
vertical-spoken p b = go (word_in vertical_word verticals b) refl
  where
    go : (o : Option Vertical) → word_in vertical_word verticals b ≡ o → Spoken p (VERTICAL ++ b)
    go none e = inl (ap as_vertical e)
    go (some v) e = let f = word-found vertical_word verticals b v e in inr (vertical v, rw f.1 (is_vertical v f.0), ap as_vertical e)

align-spoken : (p : ℕ) (b : List ℕ) → Spoken p (ALIGN ++ b)
unfolding parsed starts_with
align-spoken p b = go (word_in align_word aligns b) refl
  where
    go : (o : Option Align) → word_in align_word aligns b ≡ o → Spoken p (ALIGN ++ b)
    go none e = inl (ap as_align e)
    go (some a) e = let f = word-found align_word aligns b a e in inr (align a, rw f.1 (is_align a), ap as_align e)

size-spoken : (p : ℕ) (b : List ℕ) → Spoken p (SIZE ++ b)
unfolding parsed starts_with
size-spoken p b = go (percent_of b) refl
  where
    go : (o : Option ℕ) → percent_of b ≡ o → Spoken p (SIZE ++ b)
    go none e = inl (ap as_size e)
    go (some q) e = inr (size q, is_size (percent-says b q e), ap as_size e)

region-spoken : (p : ℕ) (b : List ℕ) → Spoken p (REGION ++ b)
unfolding parsed starts_with region_parsed
region-spoken p b =
    by-test (both (leb 1 (length b)) (leb (length b) (length (front named b))))
    (λ t. inr (region b, is_region b (all_whole named b (both_right (leb 1 (length b)) (leb (length b) (length (front named b))) t)) (leb-true 1 (length b) (both_left (leb 1 (length b)) (leb (length b) (length (front named b))) t)), rw t))
    (λ f. inl (rw f))

-- the alignment that is read behind a value: the default, or one behind a comma
comma-is : (x : ℕ) → not_comma x ≡ false → x ≡ COMMA
unfolding not_comma
comma-is x h = eqb-true x COMMA (not-false (eqb x COMMA) h)

module _ {A : Type 0} (b : List ℕ) (d : A) (word : A → List ℕ) (all : List A) where
  abbrev pub Aligned : A → Type 0
  Aligned a = ((a ≡ d) × (b ≡ front not_comma b)) ⊎ (Memᴰ a all × (b ≡ front not_comma b ++ COMMA ∷ word a))

  pub aligned : (a : A) → aligned_by d (word_in word all) (behind not_comma b) ≡ some a → Aligned a
  aligned a e = go (behind-begins not_comma b)
    where
      go : (behind not_comma b ≡ []) ⊎ ((x : ℕ) × (r : List ℕ) × (behind not_comma b ≡ x ∷ r) × (not_comma x ≡ false)) → Aligned a
      go (inl q) =
          let f : some d ≡ some a = rw q at e in
          let g : a ≡ d = cc in
          inl (g, sym (front-behind not_comma b) ∙ ap (λ (y : List ℕ). front not_comma b ++ y) q ∙ append-nil (front not_comma b))
      go (inr (x, r, q, h)) =
          let f = word-found word all r a (rw q at e) in
          inr (f.0, sym (front-behind not_comma b) ∙ ap (λ (y : List ℕ). front not_comma b ++ y) (q ∙ rw (comma-is x h, f.1)))

line-spoken : (p : ℕ) (b : List ℕ) → Spoken p (LINE ++ b)
unfolding parsed starts_with line_parsed
line-spoken p b = value_of (line-says (front not_comma b)) (aligned_by LineStart (word_in line_word line_aligns) (behind not_comma b)) refl
  where
    value_of : (line_of (front not_comma b) ≡ LineAuto) ⊎ LineAt (line_of (front not_comma b)) (front not_comma b) → (o : Option LineAlign) → aligned_by LineStart (word_in line_word line_aligns) (behind not_comma b) ≡ o → Spoken p (LINE ++ b)
    value_of (inl e) o q = inl (rw e)
    value_of (inr h) none q = inl (rw q (unaligned h))
    value_of (inr h) (some a) q = inr (line (line_of (front not_comma b)) a, told (aligned b LineStart line_word line_aligns a q), rw q (with-line a h))
      where
        told : Aligned b LineStart line_word line_aligns a → Says (line (line_of (front not_comma b)) a) (LINE ++ b)
        told (inl (e, f)) = subst (λ (y : List ℕ). Says (line (line_of (front not_comma b)) a) (LINE ++ y)) (sym f) (rw e (is_line h))
        told (inr (m, f)) = subst (λ (y : List ℕ). Says (line (line_of (front not_comma b)) a) (LINE ++ y)) (sym f) (is_aligned_line a h)

position-spoken : (p : ℕ) (b : List ℕ) → Spoken p (POSITION ++ b)
unfolding parsed starts_with position_parsed
position-spoken p b = value_of (percent_of (front not_comma b)) refl (aligned_by PositionAuto (word_in position_word position_aligns) (behind not_comma b)) refl
  where
    value_of : (v : Option ℕ) → percent_of (front not_comma b) ≡ v → (o : Option PositionAlign) → aligned_by PositionAuto (word_in position_word position_aligns) (behind not_comma b) ≡ o → Spoken p (POSITION ++ b)
    value_of none e o q = inl (rw e)
    value_of (some n) e none q = inl (rw (e, q))
    value_of (some n) e (some a) q = inr (position (Percent n) a, told (aligned b PositionAuto position_word position_aligns a q), rw (e, q))
      where
        told : Aligned b PositionAuto position_word position_aligns a → Says (position (Percent n) a) (POSITION ++ b)
        told (inl (g, f)) = subst (λ (y : List ℕ). Says (position (Percent n) a) (POSITION ++ y)) (sym f) (rw g (is_position (percent-says (front not_comma b) n e)))
        told (inr (m, f)) = subst (λ (y : List ℕ). Says (position (Percent n) a) (POSITION ++ y)) (sym f) (is_aligned_position a m (percent-says (front not_comma b) n e))

-- by the name that the word begins with
module _ (p : ℕ) (w : List ℕ) where
  begins : (name : List ℕ) → ((b : List ℕ) → Spoken p (name ++ b)) → starts_with name w ≡ true → Spoken p w
  begins name f t = let r = split name w t in rw r.1 (f r.0)

  pub spoken : Spoken p w
  unfolding parsed
  spoken =
      by-test (starts_with VERTICAL w) (begins VERTICAL (vertical-spoken p)) (λ a.
      by-test (starts_with LINE w) (begins LINE (line-spoken p)) (λ b.
      by-test (starts_with POSITION w) (begins POSITION (position-spoken p)) (λ c.
      by-test (starts_with SIZE w) (begins SIZE (size-spoken p)) (λ d.
      by-test (starts_with ALIGN w) (begins ALIGN (align-spoken p)) (λ e.
      by-test (starts_with REGION w) (begins REGION (region-spoken p)) (λ f. inl (rw (a, b, c, d, e, f))))))))

-- ---- the word of a setting holds no blank

named-solid : (b : ℕ) → named b ≡ true → unblank b ≡ true
unfolding named unblank blank
named-solid b h = by-test (eqb b SPACE)
    (λ t. absurd-test (rw t at h))
    (λ f. by-test (eqb b TAB) (λ t. absurd-test (rw (f, t) at h)) (λ g. rw (f, g)))
  where
    absurd-test : {X : Type 0} → false ≡ true → X
    absurd-test e = true-false false e refl

safe-solid : (b : ℕ) → safe b ≡ true → unblank b ≡ true
unfolding safe
safe-solid b h = high-unblank b (in-range 0x21 0x7F b (both_left (within 0x21 0x7F b) (not (eqb b GREATER)) h)).0

-- a name, and bytes behind it that are safe
solid : (a b : List ℕ) → leb (length a) (length (front unblank a)) ≡ true → All safe b → All unblank (a ++ b)
solid a b h k = all_append unblank a b (all_whole unblank a h) (all_so safe unblank safe-solid b k)

pub says-unblank : {t : Setting} {w : List ℕ} → Says t w → All unblank w
unfolding front unblank blank
says-unblank (is_vertical v m) = solid VERTICAL (vertical_word v) refl (vertical-safe v)
says-unblank (is_line {w = w} h) = solid LINE w refl (line-at-safe h)
says-unblank (is_aligned_line {w = w} a h) = solid LINE (w ++ COMMA ∷ line_word a) refl (all_append safe w (COMMA ∷ line_word a) (line-at-safe h) (line-word-safe a))
says-unblank (is_position {w = w} h) = solid POSITION w refl (percent-safe h)
says-unblank (is_aligned_position {w = w} a m h) = solid POSITION (w ++ COMMA ∷ position_word a) refl (all_append safe w (COMMA ∷ position_word a) (percent-safe h) (position-word-safe a))
says-unblank (is_size {w = w} h) = solid SIZE w refl (percent-safe h)
says-unblank (is_align a) = solid ALIGN (align_word a) refl (align-safe a)
says-unblank (is_region w h k) = all_append unblank REGION w (all_whole unblank REGION refl) (all_so named unblank named-solid w h)
