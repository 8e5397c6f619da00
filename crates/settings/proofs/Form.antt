-- What is written of a record is a text of the grammar that says it, and a text of a line.
use Prim.Native.Nat.{ℕ, zero, suc, ◌+◌, ◌/◌, ◌%◌, ◌<◌, ◌≤◌}
use mathlib.Core.Path.{◌≡◌, refl, sym, ap, ◌∙◌, subst}
use mathlib.Core.Logic.{inl, inr}
use mathlib.Core.Bool.{Bool, true, false}
use mathlib.Core.List.Memᴰ
use mathlib.Core.List.{List, [], ◌∷◌, ◌++◌, append_assoc, append-nil}
use native.Mathlib.Omega.{arith}
use native.Mathlib.Nat.{not-suc-le-zero}
use borrow.Author.Tests.{leb-true, ltb-true, eqb-true, ne_eqb}
use lib.Dec.{eqb, leb, ltb}
use lib.IntN.{ℤ, pos, negsuc, neg_ℤ}
use lib.Signed.{le_z}
use lib.ListN.{length}
use Rattle.base.specs.Choice.{both, within}
use Rattle.base.proofs.Choice.{both_left, both_right, by-test, true-false}
use Rattle.decimal.specs.Decimal.{digits, decimal}
use Rattle.decimal.proofs.Decimal.{value-decimal, decimal-some}
use Rattle.utf8.specs.Strings.{DASH, GREATER}
use Rattle.utf8.proofs.Ranges.{inside, in-range}
use Rattle.text.specs.Rules.{identifier_text}
use Rattle.text.proofs.Rules.{empty-line}
use Rattle.timestamps.specs.Timestamps.{All, COLON, DOT, digit, front}
use Rattle.vtt_timing.specs.Timing.{blank}
use Rattle.timestamps.proofs.Runs.{all_append}
use Rattle.settings.specs.declared.Vertical.{Vertical}
use Rattle.settings.specs.declared.Vertical.TheVariants.{None, Rl, Lr}
use Rattle.settings.specs.declared.Line.{Line}
use Rattle.settings.specs.declared.Line.TheVariants.{Auto as LineAuto, Number, Percent as LinePercent}
use Rattle.settings.specs.declared.LineAlign.{LineAlign}
use Rattle.settings.specs.declared.LineAlign.TheVariants.{Start as LineStart, Center as LineCenter, End as LineEnd}
use Rattle.settings.specs.declared.Position.{Position}
use Rattle.settings.specs.declared.Position.TheVariants.{Auto, Percent}
use Rattle.settings.specs.declared.PositionAlign.{PositionAlign}
use Rattle.settings.specs.declared.PositionAlign.TheVariants.{Auto as PositionAuto, LineLeft, Center as PositionCenter, LineRight}
use Rattle.settings.specs.declared.Align.{Align}
use Rattle.settings.specs.declared.Align.TheVariants.{Start, Center, End, Left, Right}
use Rattle.settings.specs.declared.Settings.{Settings}
use Rattle.settings.specs.Words.{SPACE, COMMA, PERCENT, VERTICAL, LINE, POSITION, SIZE, ALIGN, REGION, vertical_word, line_word, position_word, align_word}
use Rattle.settings.specs.Grammar.{Digits, Whole, plain, minus, Percentage, whole, tenths, hundredths, LineAt, number, percent, named, Setting, vertical, line, position, size, align, region, Says, is_vertical, is_line, is_aligned_line, is_position, is_aligned_position, is_size, is_align, is_region, Apart, Text, blanks, setting, name_of, Among, Once, Record, defaults, placed, record_of, SettingsText}
use Rattle.settings.specs.Form.{fraction_text, percent_text, number_text, line_text, word_of, stated_vertical, stated_line, stated_position, stated_size, stated_align, stated_region, stated_values, stated, appended, joined, written, line_allowed, position_allowed, region_allowed, settings_allowed, writable}
use Rattle.settings.proofs.Texts.{all_so, all_whole, seam, safe, line-cut, line-safe}

-- ---- numbers

-- the byte of a number below 10
pub is_digit : (d : ℕ) → d ≤ 9 → digit (48 + d) ≡ true
unfolding digit
is_digit d h = inside 0x30 0x39 (48 + d) (omega arith) (omega arith)

digits-each : (f n : ℕ) → All digit (digits f n)
unfolding digits
digits-each zero n = tt
digits-each (suc f) n =
    by-test (ltb n 10)
    (λ e. let l = ltb-true n 10 e in rw e (is_digit n (omega arith), tt))
    (λ e. rw e (all_append digit (digits f (n / 10)) ((48 + n % 10) ∷ []) (digits-each f (n / 10)) (is_digit (n % 10) (omega arith), tt)))

-- a number is written in digits
pub decimal-digits : (n : ℕ) → Digits (decimal n)
unfolding decimal
decimal-digits n = (digits-each 20 n, decimal-some n)

-- a whole number in range, and a percentage in range, as they are written, are right ones
pub whole-said : (n : ℤ) → both (le_z (negsuc 32767) n) (le_z n (pos 32767)) ≡ true → Whole n (number_text n)
whole-said (pos n) h =
    let l = leb-true n 32767 h in
    let e = value-decimal n (omega arith) in
    subst (λ (m : ℕ). Whole (pos m) (decimal n)) e (plain (decimal n) (decimal-digits n) (omega arith))
whole-said (negsuc n) h =
    let l = leb-true n 32767 (both_left (leb n 32767) true h) in
    let e = value-decimal (suc n) (omega arith) in
    subst (λ (m : ℕ). Whole (neg_ℤ (pos m)) (DASH ∷ decimal (suc n))) e (minus (decimal (suc n)) (decimal-digits (suc n)) (omega arith))

same-percentage : {n p : ℕ} {w : List ℕ} → Percentage n w → n ≡ p → Percentage p w
same-percentage {w = w} h e = subst (λ (m : ℕ). Percentage m w) e h

pub percent-said : (p : ℕ) → p ≤ 10000 → Percentage p (percent_text p)
unfolding percent_text fraction_text
percent-said p h =
    let ds = decimal (p / 100) in
    let D = decimal-digits (p / 100) in
    let e = value-decimal (p / 100) (omega arith) in
    let a = is_digit (p % 100 / 10) (omega arith) in
    let b = is_digit (p % 100 % 10) (omega arith) in
    by-test (eqb (p % 100) 0)
    (λ z. let y = eqb-true (p % 100) 0 z in rw z (same-percentage (whole ds D (omega arith)) (omega arith)))
    (λ z. by-test (eqb (p % 100 % 10) 0)
    (λ y. let x = eqb-true (p % 100 % 10) 0 y in rw (z, y) (same-percentage (tenths ds (48 + p % 100 / 10) D a (omega arith)) (omega arith)))
    (λ y. rw (z, y) (same-percentage (hundredths ds (48 + p % 100 / 10) (48 + p % 100 % 10) D a b (omega arith)) (omega arith))))

-- ---- words

-- a line's or a position's word, with the alignment that is not the default behind it
line-said : (l : Line) (a : LineAlign) → LineAt l (line_text l) → Says (line l a) (word_of (line l a))
unfolding word_of
line-said l LineStart h = rw (append-nil (line_text l)) (is_line h)
line-said l LineCenter h = is_aligned_line LineCenter h
line-said l LineEnd h = is_aligned_line LineEnd h

position-said : (p : ℕ) (a : PositionAlign) → Percentage p (percent_text p) → Says (position (Percent p) a) (word_of (position (Percent p) a))
unfolding word_of
position-said p PositionAuto h = rw (append-nil (percent_text p)) (is_position h)
position-said p LineLeft h = is_aligned_position LineLeft (Memᴰ.head refl) h
position-said p PositionCenter h = is_aligned_position PositionCenter (Memᴰ.tail (Memᴰ.head refl)) h
position-said p LineRight h = is_aligned_position LineRight (Memᴰ.tail (Memᴰ.tail (Memᴰ.head refl))) h

-- ---- settings one behind the other

-- the setting may stand in a record
abbrev pub allowed : Setting → Bool
allowed (vertical v) = true
allowed (line l a) = line_allowed l a
allowed (position p a) = position_allowed p a
allowed (size p) = leb p 10000
allowed (align a) = true
allowed (region w) = region_allowed w

-- a setting is allowed, and its own word says it
abbrev Fair : Setting → Type 0
Fair t = (allowed t ≡ true) × Says t (word_of t)

-- their names rise from n on, and each is fair
abbrev Rising : ℕ → List Setting → Type 0
Rising n [] = Unit {0}
Rising n (t ∷ ts) = (n ≤ name_of t) × Fair t × Rising (suc (name_of t)) ts

-- from a lower name on they rise too; a name below them is not among them; so none stands twice
rising_down : (n : ℕ) (ts : List Setting) → Rising (suc n) ts → Rising n ts
rising_down n [] h = tt
rising_down n (t ∷ ts) h = (omega (arith, h.0), h.1, h.2)

not-among : (n m : ℕ) (ts : List Setting) → n < m → Rising m ts → Among n ts → ⊥
not-among n m [] l h k = k
not-among n m (t ∷ ts) l h (inl e) = omega (arith, h.0, e)
not-among n m (t ∷ ts) l h (inr k) = not-among n (suc (name_of t)) ts (omega (arith, h.0)) h.2 k

rising-once : (n : ℕ) (ts : List Setting) → Rising n ts → Once ts
rising-once n [] h = tt
rising-once n (t ∷ ts) h = (not-among (name_of t) (suc (name_of t)) ts (omega arith) h.2, rising-once (suc (name_of t)) ts h.2)

-- they rise from n on, and say r
record Stated (n : ℕ) (ts : List Setting) (r : Record) : Type 0 where
  rising : Rising n ts
  says : record_of ts ≡ r

-- one more in front; or none, where the record has it already
add : (t : Setting) {ts : List Setting} {r : Record} → Fair t → Stated (suc (name_of t)) ts r → Stated (name_of t) (t ∷ ts) (placed t r)
unfolding record_of
add t h s = record { rising = (omega arith, h, s.rising); says = ap (placed t) s.says }

skip : (n : ℕ) {ts : List Setting} {r q : Record} → q ≡ r → Stated (suc n) ts r → Stated n ts q
skip n {ts} e s = record { rising = rising_down n ts s.rising; says = s.says ∙ sym e }

-- each part of the settings, where those behind it leave the default in its place
module _ (ts : List Setting) (r : Record) where
  state-vertical : (v : Vertical) → placed (vertical None) r ≡ r → Stated 1 ts r → Stated 0 (stated_vertical v ++ ts) (placed (vertical v) r)
  state-vertical None d s = skip 0 d s
  state-vertical Rl d s = add (vertical Rl) (refl, unfold word_of in is_vertical Rl (Memᴰ.head refl)) s
  state-vertical Lr d s = add (vertical Lr) (refl, unfold word_of in is_vertical Lr (Memᴰ.tail (Memᴰ.head refl))) s

  state-line : (l : Line) (a : LineAlign) → line_allowed l a ≡ true → placed (line LineAuto LineStart) r ≡ r → Stated 2 ts r → Stated 1 (stated_line l a ++ ts) (placed (line l a) r)
  state-line LineAuto LineStart h d s = skip 1 d s
  state-line LineAuto LineCenter h d s = true-false false h refl
  state-line LineAuto LineEnd h d s = true-false false h refl
  state-line (Number n) a h d s = add (line (Number n) a) (h, line-said (Number n) a (number (whole-said n h))) s
  state-line (LinePercent p) a h d s = add (line (LinePercent p) a) (h, line-said (LinePercent p) a (percent (percent-said p (leb-true p 10000 h)))) s

  state-position : (p : Position) (a : PositionAlign) → position_allowed p a ≡ true → placed (position Auto PositionAuto) r ≡ r → Stated 3 ts r → Stated 2 (stated_position p a ++ ts) (placed (position p a) r)
  state-position Auto PositionAuto h d s = skip 2 d s
  state-position Auto LineLeft h d s = true-false false h refl
  state-position Auto PositionCenter h d s = true-false false h refl
  state-position Auto LineRight h d s = true-false false h refl
  state-position (Percent p) a h d s = add (position (Percent p) a) (h, position-said p a (percent-said p (leb-true p 10000 h))) s

  state-size : (p : ℕ) → leb p 10000 ≡ true → placed (size 10000) r ≡ r → Stated 4 ts r → Stated 3 (stated_size p ++ ts) (placed (size p) r)
  unfolding word_of
  state-size p h d s =
      by-test (eqb p 10000)
      (λ e. rw e (skip 3 (ap (λ (q : ℕ). placed (size q) r) (eqb-true p 10000 e) ∙ d) s))
      (λ e. rw e (add (size p) (h, is_size (percent-said p (leb-true p 10000 h))) s))

  state-align : (a : Align) → placed (align Center) r ≡ r → Stated 5 ts r → Stated 4 (stated_align a ++ ts) (placed (align a) r)
  unfolding word_of
  state-align Start d s = add (align Start) (refl, is_align Start) s
  state-align Center d s = skip 4 d s
  state-align End d s = add (align End) (refl, is_align End) s
  state-align Left d s = add (align Left) (refl, is_align Left) s
  state-align Right d s = add (align Right) (refl, is_align Right) s

-- a region's name that is allowed
region-named : (w : List ℕ) → region_allowed w ≡ true → All named w
unfolding region_allowed
region-named w h = all_whole named w (both_left (leb (length w) (length (front named w))) (identifier_text w) h)

state-region : (w : List ℕ) → region_allowed w ≡ true → Stated 5 (stated_region w) (record { settings = defaults; region = w })
unfolding record_of word_of
state-region [] h = record { rising = tt; says = refl }
state-region (b ∷ w) h = add (region (b ∷ w)) (h, is_region (b ∷ w) (region-named (b ∷ w) h) (omega arith)) (record { rising = tt; says = refl })

-- the settings that a record states, part by part
pub stated-parts : (x : Settings) (w : List ℕ)
    → stated (record { settings = x; region = w })
    ≡ stated_vertical x.vertical ++ (stated_line x.line x.line_align ++ (stated_position x.position x.position_align ++ (stated_size x.size ++ (stated_align x.align ++ stated_region w))))
unfolding stated stated_values
stated-parts x w = simp append_assoc

-- each part of the record is allowed
pub record Allowed (r : Record) : Type 0 where
  pub line-so : line_allowed r.settings.line r.settings.line_align ≡ true
  pub position-so : position_allowed r.settings.position r.settings.position_align ≡ true
  pub size-so : leb r.settings.size 10000 ≡ true
  pub region-so : region_allowed r.region ≡ true

-- so it is in a record that can be written
both-parts : (a b c d e : Bool) → both (both a (both b c)) (both d e) ≡ true → (a ≡ true) × (b ≡ true) × (c ≡ true) × (d ≡ true)
both-parts true true true true e h = (refl, refl, refl, refl)
both-parts true true true false e h = true-false false h refl
both-parts true true false d e h = true-false false h refl
both-parts true false c d e h = true-false false h refl
both-parts false b c d e h = true-false false h refl

writable-allowed : (r : Record) → writable r ≡ true → Allowed r
unfolding writable settings_allowed
writable-allowed r h =
    let x = r.settings in
    let p = both-parts (line_allowed x.line x.line_align) (position_allowed x.position x.position_align) (leb x.size 10000) (region_allowed r.region) (leb (length (written r)) 255) h in
    record { line-so = p.0; position-so = p.1; size-so = p.2; region-so = p.3 }

-- what a record that can be written states says it
state-all : (r : Record) → writable r ≡ true → Stated 0 (stated r) r
state-all r h =
    let x = r.settings in
    let p = writable-allowed r h in
    rw (stated-parts x r.region)
    (state-vertical _ _ x.vertical refl
    (state-line _ _ x.line x.line_align p.line-so refl
    (state-position _ _ x.position x.position_align p.position-so refl
    (state-size _ _ x.size p.size-so refl
    (state-align _ _ x.align refl
    (state-region r.region p.region-so))))))

-- ---- the text of them

-- a word begins with no blank
pub says-solid : {t : Setting} {w : List ℕ} (s : List ℕ) → Says t w → Apart (w ++ s) → ⊥
unfolding blank
says-solid s (is_vertical v m) h = true-false false h refl
says-solid s (is_line k) h = true-false false h refl
says-solid s (is_aligned_line a k) h = true-false false h refl
says-solid s (is_position k) h = true-false false h refl
says-solid s (is_aligned_position a m k) h = true-false false h refl
says-solid s (is_size k) h = true-false false h refl
says-solid s (is_align a) h = true-false false h refl
says-solid s (is_region w k l) h = true-false false h refl

-- a word is not empty
pub says_some : {t : Setting} (w : List ℕ) → Says t w → 1 ≤ length w
says_some [] h = absurd (says-solid [] h tt)
says_some (b ∷ w) h = omega arith

-- a blank comes next, with a word behind a space at the end too
apart_more : (s : List ℕ) (w : List ℕ) → Apart s → Apart (s ++ SPACE ∷ w)
unfolding blank
apart_more [] w h = refl
apart_more (b ∷ s) w h = h

-- a text grows by a word behind a space
text-grows : {t : Setting} {ts : List Setting} {s w : List ℕ} → Text ts s → Says t w → Text (ts ++ t ∷ []) (s ++ SPACE ∷ w)
unfolding blank
text-grows {t} {w = w} (blanks b e) h =
    subst (Text (t ∷ [])) (append_assoc b (SPACE ∷ []) (w ++ []) ∙ ap (λ (x : List ℕ). b ++ SPACE ∷ x) (append-nil w))
    (setting (b ++ SPACE ∷ []) w [] (all_append blank b (SPACE ∷ []) e (refl, tt)) h tt (blanks [] tt))
text-grows {w = w} (setting b v s e h' a k) h =
    subst (Text _) (ap (λ (x : List ℕ). b ++ x) (sym (append_assoc v s (SPACE ∷ w))) ∙ sym (append_assoc b (v ++ s) (SPACE ∷ w)))
    (setting b v (s ++ SPACE ∷ w) e h' (apart_more s w a) (text-grows k h))

-- so do settings joined to a text that is not empty
joined_says : (n : ℕ) (us ts : List Setting) (s : List ℕ) → 1 ≤ length s → Text us s → Rising n ts → Text (us ++ ts) (joined s ts)
unfolding joined
joined_says n us [] s l k h = rw (append-nil us) k
joined_says n us (t ∷ ts) [] l k h = absurd (not-suc-le-zero l)
joined_says n us (t ∷ ts) (b ∷ s) l k h =
    subst (λ (x : List Setting). Text x (joined ((b ∷ s) ++ SPACE ∷ word_of t) ts)) (append_assoc us (t ∷ []) ts)
    (joined_says (suc (name_of t)) (us ++ t ∷ []) ts ((b ∷ s) ++ SPACE ∷ word_of t) (omega arith) (text-grows k h.1.1) h.2)

-- settings that rise, as they are joined, are a text
text_says : (n : ℕ) (ts : List Setting) → Rising n ts → Text ts (joined [] ts)
unfolding joined
text_says n [] h = blanks [] tt
text_says n (t ∷ ts) h =
    joined_says (suc (name_of t)) (t ∷ []) ts (word_of t) (says_some (word_of t) h.1.1)
    (subst (Text (t ∷ [])) (append-nil (word_of t)) (setting [] (word_of t) [] tt h.1.1 tt (blanks [] tt))) h.2

-- what is written is a text that says the record
pub written-says : (r : Record) → writable r ≡ true → SettingsText (written r) r
unfolding written
written-says r h =
    let s = state-all r h in
    (stated r, text_says 0 (stated r) s.rising, rising-once 0 (stated r) s.rising, s.says)

-- ---- its bytes

-- digits are safe, and the words of all values
digit-safe : (b : ℕ) → digit b ≡ true → safe b ≡ true
unfolding digit safe
digit-safe b h = let i = in-range 0x30 0x39 b h in rw (inside 0x21 0x7F b (omega (arith, i.0)) (omega (arith, i.1)), ne_eqb b GREATER (λ e. omega (arith, i.1, e)))

digits-safe : (ds : List ℕ) → Digits ds → All safe ds
digits-safe ds h = all_so digit safe digit-safe ds h.0

whole-safe : {n : ℤ} {w : List ℕ} → Whole n w → All safe w
unfolding safe within
whole-safe (plain ds h l) = digits-safe ds h
whole-safe (minus ds h l) = (refl, digits-safe ds h)

pub percent-safe : {p : ℕ} {w : List ℕ} → Percentage p w → All safe w
unfolding safe within
percent-safe (whole ds h l) = all_append safe ds (PERCENT ∷ []) (digits-safe ds h) (refl, tt)
percent-safe (tenths ds a h k l) = all_append safe ds (DOT ∷ a ∷ PERCENT ∷ []) (digits-safe ds h) (refl, (digit-safe a k, (refl, tt)))
percent-safe (hundredths ds a b h j k l) = all_append safe ds (DOT ∷ a ∷ b ∷ PERCENT ∷ []) (digits-safe ds h) (refl, (digit-safe a j, (digit-safe b k, (refl, tt))))

pub line-at-safe : {l : Line} {w : List ℕ} → LineAt l w → All safe w
line-at-safe (number h) = whole-safe h
line-at-safe (percent h) = percent-safe h

pub vertical-safe : (v : Vertical) → All safe (vertical_word v)
unfolding safe within front
vertical-safe None = tt
vertical-safe Rl = all_whole safe (vertical_word Rl) refl
vertical-safe Lr = all_whole safe (vertical_word Lr) refl

pub line-word-safe : (a : LineAlign) → All safe (COMMA ∷ line_word a)
unfolding safe within front
line-word-safe LineStart = all_whole safe (COMMA ∷ line_word LineStart) refl
line-word-safe LineCenter = all_whole safe (COMMA ∷ line_word LineCenter) refl
line-word-safe LineEnd = all_whole safe (COMMA ∷ line_word LineEnd) refl

pub position-word-safe : (a : PositionAlign) → All safe (COMMA ∷ position_word a)
unfolding safe within front
position-word-safe PositionAuto = all_whole safe (COMMA ∷ position_word PositionAuto) refl
position-word-safe LineLeft = all_whole safe (COMMA ∷ position_word LineLeft) refl
position-word-safe PositionCenter = all_whole safe (COMMA ∷ position_word PositionCenter) refl
position-word-safe LineRight = all_whole safe (COMMA ∷ position_word LineRight) refl

pub align-safe : (a : Align) → All safe (align_word a)
unfolding safe within front
align-safe Start = all_whole safe (align_word Start) refl
align-safe Center = all_whole safe (align_word Center) refl
align-safe End = all_whole safe (align_word End) refl
align-safe Left = all_whole safe (align_word Left) refl
align-safe Right = all_whole safe (align_word Right) refl

-- `region`
abbrev REGION_NAME : List ℕ
REGION_NAME = 0x72 ∷ 0x65 ∷ 0x67 ∷ 0x69 ∷ 0x6F ∷ 0x6E ∷ []

-- a region's word is a text of a line exactly if its name is one
pub region-line : (w : List ℕ) → identifier_text (REGION ++ w) ≡ identifier_text w
unfolding safe within front seam
region-line w = line-cut REGION_NAME COLON w refl ∙ ap (λ (x : Bool). both x (identifier_text w)) (line-safe REGION_NAME (all_whole safe REGION_NAME refl))

-- known bytes that are safe, and safe ones behind them
known-line : (n w : List ℕ) → leb (length n) (length (front safe n)) ≡ true → All safe w → identifier_text (n ++ w) ≡ true
known-line n w h k = line-safe (n ++ w) (all_append safe n w (all_whole safe n h) k)

-- the name of a region that a setting says
abbrev pub region_in : Setting → List ℕ
region_in (vertical v) = []
region_in (line l a) = []
region_in (position p a) = []
region_in (size p) = []
region_in (align a) = []
region_in (region w) = w

allowed-name : (t : Setting) → allowed t ≡ true → identifier_text (region_in t) ≡ true
unfolding region_allowed
allowed-name (vertical v) h = empty-line
allowed-name (line l a) h = empty-line
allowed-name (position p a) h = empty-line
allowed-name (size p) h = empty-line
allowed-name (align a) h = empty-line
allowed-name (region w) h = both_right (leb (length w) (length (front named w))) (identifier_text w) h

-- a word of a setting that is allowed is a text of a line
pub word_line : {t : Setting} {w : List ℕ} → Says t w → identifier_text (region_in t) ≡ true → identifier_text w ≡ true
unfolding safe within front
word_line (is_vertical v m) l = known-line VERTICAL (vertical_word v) refl (vertical-safe v)
word_line (is_line {w = w} h) l = known-line LINE w refl (line-at-safe h)
word_line (is_aligned_line {w = w} a h) l = known-line LINE (w ++ COMMA ∷ line_word a) refl (all_append safe w (COMMA ∷ line_word a) (line-at-safe h) (line-word-safe a))
word_line (is_position {w = w} h) l = known-line POSITION w refl (percent-safe h)
word_line (is_aligned_position {w = w} a m h) l = known-line POSITION (w ++ COMMA ∷ position_word a) refl (all_append safe w (COMMA ∷ position_word a) (percent-safe h) (position-word-safe a))
word_line (is_size {w = w} h) l = known-line SIZE w refl (percent-safe h)
word_line (is_align a) l = known-line ALIGN (align_word a) refl (align-safe a)
word_line (is_region w h k) l = rw (region-line w) l

-- so are such words one behind the other
appended-line : (s w : List ℕ) → identifier_text s ≡ true → identifier_text w ≡ true → identifier_text (appended s w) ≡ true
unfolding seam
appended-line [] w h k = k
appended-line (b ∷ s) w h k = rw (line-cut (b ∷ s) SPACE w refl, h) k

joined_line : (n : ℕ) (ts : List Setting) (s : List ℕ) → identifier_text s ≡ true → Rising n ts → identifier_text (joined s ts) ≡ true
unfolding joined
joined_line n [] s h k = h
joined_line n (t ∷ ts) s h k = joined_line (suc (name_of t)) ts (appended s (word_of t)) (appended-line s (word_of t) h (word_line k.1.1 (allowed-name t k.1.0))) k.2

-- what is written is a text of a line
pub written-line : (r : Record) → writable r ≡ true → identifier_text (written r) ≡ true
unfolding written
written-line r h = joined_line 0 (stated r) [] empty-line (state-all r h).rising
