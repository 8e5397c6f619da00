-- No text that says a record is shorter than what is written; and what a text says can be written.
use Prim.Native.Nat.{ℕ, zero, suc, ◌+◌, ◌-◌, ◌*◌, ◌/◌, ◌%◌, ◌^◌, ◌<◌, ◌≤◌}
use mathlib.Core.Path.{◌≡◌, refl, sym, ap, ◌∙◌, subst}
use mathlib.Core.Bool.{true}
use mathlib.Core.List.{List, [], ◌∷◌, ◌++◌, append-nil}
use native.Mathlib.Omega.{arith}
use native.Mathlib.Nat.{not-suc-le-zero, le_refl, add-zero}
use borrow.Author.Tests.{le-leb, eqb-true}
use lib.Dec.{eqb, leb}
use lib.IntN.{ℤ, pos, negsuc, neg_ℤ}
use lib.Signed.{le_z}
use lib.ListN.{length, length-append}
use Rattle.base.specs.Choice.{both}
use Rattle.base.proofs.Choice.{both_left, both_right, by-test, either}
use Rattle.base.proofs.Tests.{both_yes}
use Rattle.decimal.specs.Decimal.{decimal, value_from, value}
use Rattle.decimal.proofs.Decimal.{decimal-some}
use Rattle.decimal.proofs.Laws.{length-one, length_more}
use Rattle.utf8.proofs.Ranges.{in-range}
use Rattle.text.specs.Rules.{identifier_text}
use Rattle.text.proofs.Rules.{empty-line}
use Rattle.timestamps.specs.Timestamps.{All, DOT, digit, front}
use Rattle.vtt_timing.specs.Timing.{blank}
use Rattle.timestamps.proofs.Runs.{front-all}
use Rattle.settings.specs.declared.Vertical.TheVariants.{None, Rl, Lr}
use Rattle.settings.specs.declared.Line.{Line}
use Rattle.settings.specs.declared.Line.TheVariants.{Auto as LineAuto, Number, Percent as LinePercent}
use Rattle.settings.specs.declared.LineAlign.{LineAlign}
use Rattle.settings.specs.declared.LineAlign.TheVariants.{Start as LineStart, Center as LineCenter, End as LineEnd}
use Rattle.settings.specs.declared.Position.TheVariants.{Auto, Percent}
use Rattle.settings.specs.declared.PositionAlign.{PositionAlign}
use Rattle.settings.specs.declared.PositionAlign.TheVariants.{Auto as PositionAuto, LineLeft, Center as PositionCenter, LineRight}
use Rattle.settings.specs.declared.Align.TheVariants.{Start, Center, End, Left, Right}
use Rattle.settings.specs.Words.{SPACE, TAB, COMMA, PERCENT, line_word, position_word}
use Rattle.settings.specs.Grammar.{Digits, Whole, plain, minus, Percentage, whole, tenths, hundredths, LineAt, number, percent, named, Setting, vertical, line, position, size, align, region, Says, is_vertical, is_line, is_aligned_line, is_position, is_aligned_position, is_size, is_align, is_region, Apart, Text, blanks, setting, Record, placed, record_of, SettingsText}
use Rattle.settings.specs.Form.{fraction_text, percent_text, number_text, line_text, line_edge, position_edge, word_of, stated_vertical, stated_line, stated_position, stated_size, stated_align, stated_region, stated_values, stated, appended, joined, written, line_allowed, region_allowed, settings_allowed, writable}
use Rattle.settings.proofs.Texts.{seam, line-cut}
use Rattle.settings.proofs.Form.{allowed, stated-parts, Allowed, says-solid, region-line}

-- ---- numbers

-- digits behind a number make it no smaller
value_grows : (v : ℕ) (ds : List ℕ) → v ≤ value_from v ds
unfolding value_from
value_grows v [] = le_refl v
value_grows v (d ∷ ds) = omega (arith, value_grows (v * 10 + (d - 48)) ds)

-- with each digit behind it a number is at most one digit longer
value-long : (v : ℕ) (ds : List ℕ) → All digit ds → value_from v ds < 10 ^ 20 → length (decimal (value_from v ds)) ≤ length (decimal v) + length ds
unfolding value_from digit
value-long v [] h l = omega arith
value-long v (d ∷ ds) h l =
    let n = v * 10 + (d - 48) in
    let i = in-range 0x30 0x39 d h.0 in
    let r = value-long n ds h.1 l in
    let g = value_grows n ds in
    either 10 n
    (λ k.
    let e : n / 10 ≡ v = omega (arith, i.1) in
    omega (arith, r, length_more n k (omega (arith, l, g)), ap (λ (x : ℕ). length (decimal x)) e))
    (λ k. omega (arith, r, length-one n k, decimal-some v))

-- no digits of a number are fewer than those that are written
pub digits_long : (ds : List ℕ) → Digits ds → value ds < 10 ^ 20 → length (decimal (value ds)) ≤ length ds
unfolding value value_from digit
digits_long [] h l = absurd (not-suc-le-zero h.1)
digits_long (d ∷ ds) h l =
    let n = 0 * 10 + (d - 48) in
    let i = in-range 0x30 0x39 d h.0.0 in
    omega (arith, value-long n ds h.0.1 l, length-one n (omega (arith, i.1)))

-- no word of a whole number, of a percentage or of a line is shorter than the one that is written
minus-long : (n : ℕ) (ds : List ℕ) → length (decimal n) ≤ length ds → length (number_text (neg_ℤ (pos n))) ≤ suc (length ds)
minus-long zero ds h = omega arith
minus-long (suc n) ds h = omega arith

whole_long : {n : ℤ} {w : List ℕ} → Whole n w → length (number_text n) ≤ length w
whole_long (plain ds h l) = digits_long ds h (omega arith)
whole_long (minus ds h l) = minus-long (value ds) ds (digits_long ds h (omega arith))

-- the decimals are at most two, at most one if the last is 0
fraction-three : (h : ℕ) → length (fraction_text h) ≤ 3
unfolding fraction_text
fraction-three h = by-test (eqb h 0) (λ e. rw e (omega arith)) (λ e. by-test (eqb (h % 10) 0) (λ f. rw (e, f) (omega arith)) (λ f. rw (e, f) (omega arith)))

fraction-two : (d : ℕ) → length (fraction_text (d * 10)) ≤ 2
unfolding fraction_text
fraction-two d = let m : d * 10 % 10 ≡ 0 = omega arith in by-test (eqb (d * 10) 0) (λ e. rw e (omega arith)) (λ e. rw (e, m) (omega arith))

-- a percentage of h hundredths behind the digits, by what stands behind them
percent-more : (ds x : List ℕ) (h : ℕ) → Digits ds → h < 100 → value ds * 100 + h ≤ 10000 → length (fraction_text h) < length x → length (percent_text (value ds * 100 + h)) ≤ length (ds ++ x)
unfolding percent_text
percent-more ds x h D b l f =
    let q : (value ds * 100 + h) / 100 ≡ value ds = omega arith in
    let m : (value ds * 100 + h) % 100 ≡ h = omega arith in
    rw (q, m, length-append (decimal (value ds)), length-append (fraction_text h), length-append ds x) (omega (arith, digits_long ds D (omega arith)))

digit-small : (a : ℕ) → digit a ≡ true → a - 48 ≤ 9
unfolding digit
digit-small a h = omega (arith, (in-range 0x30 0x39 a h).1)

percent-long : {p : ℕ} {w : List ℕ} → Percentage p w → length (percent_text p) ≤ length w
unfolding fraction_text
percent-long (whole ds h l) = rw (← add-zero (value ds * 100)) (percent-more ds (PERCENT ∷ []) 0 h (omega arith) (omega arith) (omega arith))
percent-long (tenths ds a h k l) = percent-more ds (DOT ∷ a ∷ PERCENT ∷ []) ((a - 48) * 10) h (omega (arith, digit-small a k)) l (omega (arith, fraction-two (a - 48)))
percent-long (hundredths ds a b h j k l) =
    percent-more ds (DOT ∷ a ∷ b ∷ PERCENT ∷ []) ((a - 48) * 10 + (b - 48)) h (omega (arith, digit-small a j, digit-small b k)) l (omega (arith, fraction-three ((a - 48) * 10 + (b - 48))))

line-long : {l : Line} {w : List ℕ} → LineAt l w → length (line_text l) ≤ length w
line-long (number h) = whole_long h
line-long (percent h) = percent-long h

-- nor is one of an alignment
line-edge-long : (a : LineAlign) → length (line_edge a) ≤ length (COMMA ∷ line_word a)
line-edge-long LineStart = omega arith
line-edge-long LineCenter = omega arith
line-edge-long LineEnd = omega arith

position-edge-long : (a : PositionAlign) → length (position_edge a) ≤ length (COMMA ∷ position_word a)
position-edge-long PositionAuto = omega arith
position-edge-long LineLeft = omega arith
position-edge-long PositionCenter = omega arith
position-edge-long LineRight = omega arith

two-long : (a b c d : List ℕ) → length a ≤ length c → length b ≤ length d → length (a ++ b) ≤ length (c ++ d)
two-long a b c d h k = rw (length-append a b, length-append c d) (omega arith)

-- no word that says a setting is shorter than its own
pub says-long : {t : Setting} {w : List ℕ} → Says t w → length (word_of t) ≤ length w
unfolding word_of
says-long (is_vertical v m) = le_refl _
says-long (is_line {l} {w} h) = rw (append-nil (line_text l)) (omega (arith, line-long h))
says-long (is_aligned_line {l} {w} a h) = omega (arith, two-long (line_text l) (line_edge a) w (COMMA ∷ line_word a) (line-long h) (line-edge-long a))
says-long (is_position {p} {w} h) = rw (append-nil (percent_text p)) (omega (arith, percent-long h))
says-long (is_aligned_position {p} {w} a m h) = omega (arith, two-long (percent_text p) (position_edge a) w (COMMA ∷ position_word a) (percent-long h) (position-edge-long a))
says-long (is_size h) = omega (arith, percent-long h)
says-long (is_align a) = le_refl _
says-long (is_region w h k) = le_refl _

-- ---- what settings cost

-- a byte more than its own word for each setting
spent : List Setting → ℕ
spent [] = 0
spent (t ∷ ts) = suc (length (word_of t)) + spent ts

spent-append : (ts us : List Setting) → spent (ts ++ us) ≡ spent ts + spent us
unfolding spent
spent-append [] us = omega arith
spent-append (t ∷ ts) us = omega (arith, spent-append ts us)

-- what is joined to a text is no longer than the settings cost
appended-long : (s w : List ℕ) → length (appended s w) ≤ length s + suc (length w)
appended-long [] w = omega arith
appended-long (b ∷ s) w = omega (arith, length-append (b ∷ s) (SPACE ∷ w))

joined-long : (s : List ℕ) (ts : List Setting) → length (joined s ts) ≤ length s + spent ts
unfolding joined spent
joined-long s [] = omega arith
joined-long s (t ∷ ts) = omega (arith, joined-long (appended s (word_of t)) ts, appended-long s (word_of t))

-- what is written has a byte less than its settings cost
written-long : (ts : List Setting) → length (joined [] ts) ≤ spent ts - 1
unfolding joined spent
written-long [] = omega arith
written-long (t ∷ ts) = omega (arith, joined-long (word_of t) ts)

-- where a blank stands in front of a word, it stands before it
blank-first : {t : Setting} {w : List ℕ} (b s : List ℕ) → Says t w → Apart (b ++ (w ++ s)) → 1 ≤ length b
blank-first [] s k h = absurd (says-solid s k h)
blank-first (x ∷ b) s k h = omega arith

-- a text has at most a byte less than its settings cost, and no byte less if a blank stands in front
text-long : {ts : List Setting} {s : List ℕ} → Text ts s → (spent ts ≤ suc (length s)) × (Apart s → spent ts ≤ length s)
unfolding spent
text-long (blanks b e) = (omega arith, λ _. omega arith)
text-long (setting b w s e h a k) =
    let r = (text-long k).1 a in
    let l = says-long h in
    let n = length-append b (w ++ s) in
    let m = length-append w s in
    (omega arith, λ p. let f = blank-first b s h p in omega arith)

-- the settings that a record states of one name
abbrev stated_of : Setting → List Setting
stated_of (vertical v) = stated_vertical v
stated_of (line l a) = stated_line l a
stated_of (position p a) = stated_position p a
stated_of (size p) = stated_size p
stated_of (align a) = stated_align a
stated_of (region w) = stated_region w

-- they are at most the one
stated-spent : (t : Setting) → spent (stated_of t) ≤ suc (length (word_of t))
unfolding spent
stated-spent (vertical None) = omega arith
stated-spent (vertical Rl) = omega arith
stated-spent (vertical Lr) = omega arith
stated-spent (line LineAuto a) = omega arith
stated-spent (line (Number n) a) = omega arith
stated-spent (line (LinePercent p) a) = omega arith
stated-spent (position Auto a) = omega arith
stated-spent (position (Percent p) a) = omega arith
stated-spent (size p) = by-test (eqb p 10000) (λ e. rw e (omega arith)) (λ e. rw e (omega arith))
stated-spent (align Start) = omega arith
stated-spent (align Center) = omega arith
stated-spent (align End) = omega arith
stated-spent (align Left) = omega arith
stated-spent (align Right) = omega arith
stated-spent (region []) = omega arith
stated-spent (region (b ∷ w)) = omega arith

-- what a record costs is what its parts cost
record-spent : (r : Record) → spent (stated r)
    ≡ spent (stated_vertical r.settings.vertical) + (spent (stated_line r.settings.line r.settings.line_align) + (spent (stated_position r.settings.position r.settings.position_align)
    + (spent (stated_size r.settings.size) + (spent (stated_align r.settings.align) + spent (stated_region r.region)))))
record-spent r = simp (stated-parts r.settings r.region, spent-append)

-- a setting put in its place raises that by no more than it costs
placed-spent : (t : Setting) (r : Record) → spent (stated (placed t r)) ≤ suc (length (word_of t)) + spent (stated r)
placed-spent (vertical v) r = omega (arith, record-spent (placed (vertical v) r), record-spent r, stated-spent (vertical v))
placed-spent (line l a) r = omega (arith, record-spent (placed (line l a) r), record-spent r, stated-spent (line l a))
placed-spent (position p a) r = omega (arith, record-spent (placed (position p a) r), record-spent r, stated-spent (position p a))
placed-spent (size p) r = omega (arith, record-spent (placed (size p) r), record-spent r, stated-spent (size p))
placed-spent (align a) r = omega (arith, record-spent (placed (align a) r), record-spent r, stated-spent (align a))
placed-spent (region w) r = omega (arith, record-spent (placed (region w) r), record-spent r, stated-spent (region w))

-- a record that settings say costs no more than they
recorded-spent : (ts : List Setting) → spent (stated (record_of ts)) ≤ spent ts
unfolding spent record_of stated stated_values
recorded-spent [] = omega arith
recorded-spent (t ∷ ts) = omega (arith, placed-spent t (record_of ts), recorded-spent ts)

-- no text that says a record is shorter than what is written
pub says-longer : (r : Record) (s : List ℕ) → SettingsText s r → length (written r) ≤ length s
unfolding written
says-longer r s k =
    let l = ap (λ (x : Record). spent (stated x)) k.3 in
    omega (arith, written-long (stated r), recorded-spent k.0, (text-long k.1).0)

-- ---- what a text says can be written

-- values of the grammar are in range
minus-allowed : (n : ℕ) → n ≤ 32768 → both (le_z (negsuc 32767) (neg_ℤ (pos n))) (le_z (neg_ℤ (pos n)) (pos 32767)) ≡ true
minus-allowed zero l = refl
minus-allowed (suc n) l = rw (le-leb n 32767 (omega arith))

whole-allowed : {n : ℤ} {w : List ℕ} → Whole n w → both (le_z (negsuc 32767) n) (le_z n (pos 32767)) ≡ true
whole-allowed (plain ds h l) = le-leb (value ds) 32767 l
whole-allowed (minus ds h l) = minus-allowed (value ds) l

percent-allowed : {p : ℕ} {w : List ℕ} → Percentage p w → leb p 10000 ≡ true
percent-allowed (whole ds h l) = le-leb _ 10000 l
percent-allowed (tenths ds a h k l) = le-leb _ 10000 l
percent-allowed (hundredths ds a b h j k l) = le-leb _ 10000 l

line-allowed : {l : Line} {w : List ℕ} (a : LineAlign) → LineAt l w → line_allowed l a ≡ true
line-allowed a (number h) = whole-allowed h
line-allowed a (percent h) = percent-allowed h

-- a setting that a word says is allowed, if the word is a text of a line
says-allowed : {t : Setting} {w : List ℕ} → Says t w → identifier_text w ≡ true → allowed t ≡ true
unfolding region_allowed
says-allowed (is_vertical v m) i = refl
says-allowed (is_line h) i = line-allowed LineStart h
says-allowed (is_aligned_line a h) i = line-allowed a h
says-allowed (is_position h) i = percent-allowed h
says-allowed (is_aligned_position a m h) i = percent-allowed h
says-allowed (is_size h) i = percent-allowed h
says-allowed (is_align a) i = refl
says-allowed (is_region w h k) i = rw (front-all named w h, le-leb (length w) (length w) (le_refl _), ← region-line w) i

-- a setting that is allowed, put in its place
placed-allowed : (t : Setting) (r : Record) → allowed t ≡ true → Allowed r → Allowed (placed t r)
placed-allowed (vertical v) r h k = record { line-so = k.line-so; position-so = k.position-so; size-so = k.size-so; region-so = k.region-so }
placed-allowed (line l a) r h k = record { line-so = h; position-so = k.position-so; size-so = k.size-so; region-so = k.region-so }
placed-allowed (position p a) r h k = record { line-so = k.line-so; position-so = h; size-so = k.size-so; region-so = k.region-so }
placed-allowed (size p) r h k = record { line-so = k.line-so; position-so = k.position-so; size-so = h; region-so = k.region-so }
placed-allowed (align a) r h k = record { line-so = k.line-so; position-so = k.position-so; size-so = k.size-so; region-so = k.region-so }
placed-allowed (region w) r h k = record { line-so = k.line-so; position-so = k.position-so; size-so = k.size-so; region-so = h }

-- a blank is a seam
blank-seam : (c : ℕ) → blank c ≡ true → seam c ≡ true
unfolding blank seam
blank-seam c h =
    by-test (eqb c SPACE)
    (λ e. rw (eqb-true c SPACE e))
    (λ e. let f : eqb c TAB ≡ true = rw e at h in rw (eqb-true c TAB f))

-- a text of a line, cut before a blank, or at its end
pub line-apart : (a s : List ℕ) → Apart s → identifier_text (a ++ s) ≡ both (identifier_text a) (identifier_text s)
line-apart a [] h = ap identifier_text (append-nil a) ∙ sym (rw empty-line (both_yes (identifier_text a)))
line-apart a (c ∷ s) h =
    let m = blank-seam c h in
    line-cut a c s m ∙ ap (both (identifier_text a)) (sym (line-cut [] c s m ∙ rw empty-line))

-- blanks in front of a text of a line
pub line-blanks : (b s : List ℕ) → All blank b → identifier_text (b ++ s) ≡ identifier_text s
line-blanks [] s h = refl
line-blanks (c ∷ b) s h = line-cut [] c (b ++ s) (blank-seam c h.0) ∙ rw empty-line (line-blanks b s h.1)

-- what a text of a line says is allowed, part by part
text-allowed : {ts : List Setting} {s : List ℕ} → Text ts s → identifier_text s ≡ true → Allowed (record_of ts)
unfolding record_of region_allowed front
text-allowed (blanks b e) i = record { line-so = refl; position-so = refl; size-so = refl; region-so = empty-line }
text-allowed (setting {t} {ts} b w s e h a k) i =
    let p : both (identifier_text w) (identifier_text s) ≡ true = sym (line-apart w s a) ∙ sym (line-blanks b (w ++ s) e) ∙ i in
    placed-allowed t (record_of ts) (says-allowed h (both_left (identifier_text w) (identifier_text s) p)) (text-allowed k (both_right (identifier_text w) (identifier_text s) p))

-- what a text within rule and limit says can be written
pub says-writable : (r : Record) (s : List ℕ) → SettingsText s r → identifier_text s ≡ true → length s ≤ 255 → writable r ≡ true
unfolding writable settings_allowed
says-writable r s k i l =
    let p : Allowed r = subst Allowed k.3 (text-allowed k.1 i) in
    rw (p.line-so, p.position-so, p.size-so, p.region-so) (le-leb (length (written r)) 255 (omega (arith, says-longer r s k)))
