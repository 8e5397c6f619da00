-- The grammar of settings: the W3C syntax, with document 02's limits (K10). What a text of it says is a record.
use Rattle.std.specs.Prelude.{ℕ, ◌+◌, ◌-◌, ◌*◌, ◌≤◌, ◌≡◌, ◌⊎◌, Bool, true, not, eqb, ℤ, pos, neg_ℤ, length}
use mathlib.Core.List.{List, [], ◌∷◌, ◌++◌, Memᴰ}
use Rattle.base.specs.Choice.{any_of}
use Rattle.decimal.specs.Decimal.{value}
use Rattle.utf8.specs.Strings.{CR, LF, DASH}
use Rattle.timestamps.specs.Timestamps.{All, DOT, digit}
use Rattle.vtt_timing.specs.Timing.{blank, unblank}
use Rattle.settings.specs.declared.Vertical.{Vertical}
use Rattle.settings.specs.declared.Vertical.TheVariants.{None}
use Rattle.settings.specs.declared.Line.{Line}
use Rattle.settings.specs.declared.Line.TheVariants.{Auto as LineAuto, Number, Percent as LinePercent}
use Rattle.settings.specs.declared.LineAlign.{LineAlign}
use Rattle.settings.specs.declared.LineAlign.TheVariants.{Start as LineStart}
use Rattle.settings.specs.declared.Position.{Position}
use Rattle.settings.specs.declared.Position.TheVariants.{Auto, Percent}
use Rattle.settings.specs.declared.PositionAlign.{PositionAlign}
use Rattle.settings.specs.declared.PositionAlign.TheVariants.{Auto as PositionAuto}
use Rattle.settings.specs.declared.Align.{Align}
use Rattle.settings.specs.declared.Align.TheVariants.{Center}
use Rattle.settings.specs.declared.Settings.{Settings}
use Rattle.settings.specs.Words.{SPACE, TAB, FORM_FEED, COMMA, PERCENT, VERTICAL, LINE, POSITION, SIZE, ALIGN, REGION, verticals, vertical_word, line_word, position_aligns, position_word, align_word}

-- ---- values

-- one digit or more
abbrev pub Digits : List ℕ → Type 0
Digits ds = All digit ds × (1 ≤ length ds)

-- a whole number from -32,768 to 32,767
pub data Whole : ℤ → List ℕ → Type 0 where
  plain : (ds : List ℕ) → Digits ds → value ds ≤ 32767 → Whole (pos (value ds)) ds
  minus : (ds : List ℕ) → Digits ds → value ds ≤ 32768 → Whole (neg_ℤ (pos (value ds))) (DASH ∷ ds)

-- a percentage with at most two decimals, in hundredths, at most 100 %
pub data Percentage : ℕ → List ℕ → Type 0 where
  whole : (ds : List ℕ) → Digits ds → value ds * 100 ≤ 10000 → Percentage (value ds * 100) (ds ++ PERCENT ∷ [])
  tenths : (ds : List ℕ) (a : ℕ) → Digits ds → digit a ≡ true → value ds * 100 + (a - 0x30) * 10 ≤ 10000 → Percentage (value ds * 100 + (a - 0x30) * 10) (ds ++ DOT ∷ a ∷ PERCENT ∷ [])
  hundredths : (ds : List ℕ) (a b : ℕ) → Digits ds → digit a ≡ true → digit b ≡ true → value ds * 100 + ((a - 0x30) * 10 + (b - 0x30)) ≤ 10000
      → Percentage (value ds * 100 + ((a - 0x30) * 10 + (b - 0x30))) (ds ++ DOT ∷ a ∷ b ∷ PERCENT ∷ [])

pub data LineAt : Line → List ℕ → Type 0 where
  number : {n : ℤ} {w : List ℕ} → Whole n w → LineAt (Number n) w
  percent : {p : ℕ} {w : List ℕ} → Percentage p w → LineAt (LinePercent p) w

-- a byte of a region's name: no tab, LF, form feed, CR or space
unfoldable pub named : ℕ → Bool
named b = not (any_of (eqb b SPACE) (any_of (eqb b TAB) (any_of (eqb b LF) (any_of (eqb b FORM_FEED) (eqb b CR)))))

-- ---- settings

pub data Setting : Type 0 where
  vertical : Vertical → Setting
  line : Line → LineAlign → Setting
  position : Position → PositionAlign → Setting
  size : ℕ → Setting
  align : Align → Setting
  region : List ℕ → Setting

-- the setting that a word says: for each name its values
pub data Says : Setting → List ℕ → Type 0 where
  is_vertical : (v : Vertical) → Memᴰ v verticals → Says (vertical v) (VERTICAL ++ vertical_word v)
  is_line : {l : Line} {w : List ℕ} → LineAt l w → Says (line l LineStart) (LINE ++ w)
  is_aligned_line : {l : Line} {w : List ℕ} (a : LineAlign) → LineAt l w → Says (line l a) (LINE ++ (w ++ COMMA ∷ line_word a))
  is_position : {p : ℕ} {w : List ℕ} → Percentage p w → Says (position (Percent p) PositionAuto) (POSITION ++ w)
  is_aligned_position : {p : ℕ} {w : List ℕ} (a : PositionAlign) → Memᴰ a position_aligns → Percentage p w → Says (position (Percent p) a) (POSITION ++ (w ++ COMMA ∷ position_word a))
  is_size : {p : ℕ} {w : List ℕ} → Percentage p w → Says (size p) (SIZE ++ w)
  is_align : (a : Align) → Says (align a) (ALIGN ++ align_word a)
  is_region : (w : List ℕ) → All named w → 1 ≤ length w → Says (region w) (REGION ++ w)

-- ---- texts

-- a blank or nothing comes next
abbrev pub Apart : List ℕ → Type 0
Apart [] = Unit {0}
Apart (b ∷ s) = blank b ≡ true

-- spaces and tabs stand between settings, and may stand before the first and behind the last
pub data Text : List Setting → List ℕ → Type 0 where
  blanks : (b : List ℕ) → All blank b → Text [] b
  setting : {t : Setting} {ts : List Setting} (b w s : List ℕ) → All blank b → Says t w → Apart s → Text ts s → Text (t ∷ ts) (b ++ (w ++ s))

-- the names, by number
abbrev pub name_of : Setting → ℕ
name_of (vertical v) = 0
name_of (line l a) = 1
name_of (position p a) = 2
name_of (size p) = 3
name_of (align a) = 4
name_of (region w) = 5

-- a setting of that name is among them
abbrev pub Among : ℕ → List Setting → Type 0
Among n [] = ⊥
Among n (t ∷ ts) = (name_of t ≡ n) ⊎ Among n ts

-- no name twice
abbrev pub Once : List Setting → Type 0
Once [] = Unit {0}
Once (t ∷ ts) = (Among (name_of t) ts → ⊥) × Once ts

-- ---- what a text says

-- the settings, and the region's name; empty where there is none
pub record Record : Type 0 where
  pub settings : Settings
  pub region : List ℕ

-- the defaults of the W3C text
abbrev pub defaults : Settings
defaults =
    record {
      vertical = None;
      line = LineAuto;
      line_align = LineStart;
      position = Auto;
      position_align = PositionAuto;
      size = 10000;
      align = Center;
    }

-- settings with one of them anew
abbrev pub with_vertical : Vertical → Settings → Settings
with_vertical v x = record { vertical = v; line = x.line; line_align = x.line_align; position = x.position; position_align = x.position_align; size = x.size; align = x.align }

abbrev pub with_line : Line → LineAlign → Settings → Settings
with_line l a x = record { vertical = x.vertical; line = l; line_align = a; position = x.position; position_align = x.position_align; size = x.size; align = x.align }

abbrev pub with_position : Position → PositionAlign → Settings → Settings
with_position p a x = record { vertical = x.vertical; line = x.line; line_align = x.line_align; position = p; position_align = a; size = x.size; align = x.align }

abbrev pub with_size : ℕ → Settings → Settings
with_size p x = record { vertical = x.vertical; line = x.line; line_align = x.line_align; position = x.position; position_align = x.position_align; size = p; align = x.align }

abbrev pub with_align : Align → Settings → Settings
with_align a x = record { vertical = x.vertical; line = x.line; line_align = x.line_align; position = x.position; position_align = x.position_align; size = x.size; align = a }

-- a setting in its place
abbrev pub placed : Setting → Record → Record
placed (vertical v) r = record { settings = with_vertical v r.settings; region = r.region }
placed (line l a) r = record { settings = with_line l a r.settings; region = r.region }
placed (position p a) r = record { settings = with_position p a r.settings; region = r.region }
placed (size p) r = record { settings = with_size p r.settings; region = r.region }
placed (align a) r = record { settings = with_align a r.settings; region = r.region }
placed (region w) r = record { settings = r.settings; region = w }

-- each in its place, the rest as the defaults have it
unfoldable pub record_of : List Setting → Record
record_of [] = record { settings = defaults; region = [] }
record_of (t ∷ ts) = placed t (record_of ts)

-- a text of the grammar, and the record that it says
abbrev pub SettingsText : List ℕ → Record → Type 0
SettingsText s r = (ts : List Setting) × Text ts s × Once ts × (record_of ts ≡ r)

-- nothing, or a blank, stands before a word
abbrev pub Ended : List ℕ → Type 0
Ended [] = Unit {0}
Ended (b ∷ []) = blank b ≡ true
Ended (b ∷ c ∷ s) = Ended (c ∷ s)

-- the first setting of a text that may not stand there is the one at q: settings with no name twice stand before it, and it is none, or one of a name that stands there
pub record WrongAt (s : List ℕ) (q : ℕ) : Type 0 where
  pub before : List ℕ
  pub word : List ℕ
  pub behind : List ℕ
  pub text : s ≡ before ++ (word ++ behind)
  pub place : length before ≡ q
  pub begins : Ended before
  pub some : 1 ≤ length word
  pub solid : All unblank word
  pub ends : Apart behind
  pub settings : List Setting
  pub good : Text settings before
  pub once : Once settings
  pub wrong : (t : Setting) → Says t word → Among (name_of t) settings
