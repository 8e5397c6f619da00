-- The fixed form of a record: what is written, and which records can be. Document 02, K10.
use Rattle.std.specs.Prelude.{ℕ, suc, ◌+◌, ◌/◌, ◌%◌, Bool, true, false, List, [], ◌∷◌, ◌++◌, eqb, leb, ℤ, pos, negsuc, length}
use Rattle.std.specs.Int.Signed.{le_z}
use Rattle.base.specs.Choice.{pick, both}
use Rattle.decimal.specs.Decimal.{decimal}
use Rattle.utf8.specs.Strings.{DASH}
use Rattle.text.specs.Rules.{identifier_text}
use Rattle.timestamps.specs.Timestamps.{DOT, front}
use Rattle.settings.specs.declared.Vertical.{Vertical}
use Rattle.settings.specs.declared.Vertical.TheVariants.{None, Rl, Lr}
use Rattle.settings.specs.declared.Line.{Line}
use Rattle.settings.specs.declared.Line.TheVariants.{Auto as LineAuto, Number, Percent as LinePercent}
use Rattle.settings.specs.declared.LineAlign.{LineAlign}
use Rattle.settings.specs.declared.LineAlign.TheVariants.{Start as LineStart, Center as LineCenter, End as LineEnd}
use Rattle.settings.specs.declared.Position.{Position}
use Rattle.settings.specs.declared.Position.TheVariants.{Auto, Percent}
use Rattle.settings.specs.declared.PositionAlign.{PositionAlign}
use Rattle.settings.specs.declared.PositionAlign.TheVariants.{Auto as PositionAuto, LineLeft, Center as PositionCenter, LineRight}
use Rattle.settings.specs.declared.Align.{Align}
use Rattle.settings.specs.declared.Align.TheVariants.{Start, Center, End, Left, Right}
use Rattle.settings.specs.declared.Settings.{Settings}
use Rattle.settings.specs.Words.{SPACE, COMMA, PERCENT, VERTICAL, LINE, POSITION, SIZE, ALIGN, REGION, vertical_word, line_word, position_word, align_word}
use Rattle.settings.specs.Grammar.{Setting, vertical, line, position, size, align, region, Record, named}

-- ---- a setting's word, each value shortest

-- the decimals of h hundredths, without zeros at the end
unfoldable pub fraction_text : ℕ → List ℕ
fraction_text h = pick (eqb h 0) [] (pick (eqb (h % 10) 0) (DOT ∷ (0x30 + h / 10) ∷ []) (DOT ∷ (0x30 + h / 10) ∷ (0x30 + h % 10) ∷ []))

unfoldable pub percent_text : ℕ → List ℕ
unfolding fraction_text
percent_text p = decimal (p / 100) ++ (fraction_text (p % 100) ++ PERCENT ∷ [])

abbrev pub number_text : ℤ → List ℕ
number_text (pos n) = decimal n
number_text (negsuc n) = DASH ∷ decimal (suc n)

abbrev pub line_text : Line → List ℕ
line_text LineAuto = []
line_text (Number n) = number_text n
line_text (LinePercent p) = percent_text p

abbrev pub position_text : Position → List ℕ
position_text Auto = []
position_text (Percent p) = percent_text p

-- an alignment behind a comma, unless it is the default
abbrev pub line_edge : LineAlign → List ℕ
line_edge LineStart = []
line_edge LineCenter = COMMA ∷ line_word LineCenter
line_edge LineEnd = COMMA ∷ line_word LineEnd

abbrev pub position_edge : PositionAlign → List ℕ
position_edge PositionAuto = []
position_edge LineLeft = COMMA ∷ position_word LineLeft
position_edge PositionCenter = COMMA ∷ position_word PositionCenter
position_edge LineRight = COMMA ∷ position_word LineRight

unfoldable pub word_of : Setting → List ℕ
word_of (vertical v) = VERTICAL ++ vertical_word v
word_of (line l a) = LINE ++ (line_text l ++ line_edge a)
word_of (position p a) = POSITION ++ (position_text p ++ position_edge a)
word_of (size p) = SIZE ++ percent_text p
word_of (align a) = ALIGN ++ align_word a
word_of (region w) = REGION ++ w

-- ---- the settings of a record that are not the defaults, in document 02's order

abbrev pub stated_vertical : Vertical → List Setting
stated_vertical None = []
stated_vertical Rl = vertical Rl ∷ []
stated_vertical Lr = vertical Lr ∷ []

abbrev pub stated_line : Line → LineAlign → List Setting
stated_line LineAuto a = []
stated_line (Number n) a = line (Number n) a ∷ []
stated_line (LinePercent p) a = line (LinePercent p) a ∷ []

abbrev pub stated_position : Position → PositionAlign → List Setting
stated_position Auto a = []
stated_position (Percent p) a = position (Percent p) a ∷ []

abbrev pub stated_size : ℕ → List Setting
stated_size p = pick (eqb p 10000) [] (size p ∷ [])

abbrev pub stated_align : Align → List Setting
stated_align Start = align Start ∷ []
stated_align Center = []
stated_align End = align End ∷ []
stated_align Left = align Left ∷ []
stated_align Right = align Right ∷ []

abbrev pub stated_region : List ℕ → List Setting
stated_region [] = []
stated_region (b ∷ w) = region (b ∷ w) ∷ []

-- all but the region
unfoldable pub stated_values : Settings → List Setting
stated_values x = stated_vertical x.vertical ++ (stated_line x.line x.line_align ++ (stated_position x.position x.position_align ++ (stated_size x.size ++ stated_align x.align)))

unfoldable pub stated : Record → List Setting
unfolding stated_values
stated r = stated_values r.settings ++ stated_region r.region

-- ---- the text

-- a word behind what is written, with one space between
abbrev pub appended : List ℕ → List ℕ → List ℕ
appended [] w = w
appended (b ∷ s) w = (b ∷ s) ++ SPACE ∷ w

unfoldable pub joined : List ℕ → List Setting → List ℕ
joined s [] = s
joined s (t ∷ ts) = joined (appended s (word_of t)) ts

unfoldable pub written : Record → List ℕ
written r = joined [] (stated r)

-- ---- the records that can be written

-- an alignment other than the default stands beside a line or position only
abbrev pub line_allowed : Line → LineAlign → Bool
line_allowed LineAuto LineStart = true
line_allowed LineAuto LineCenter = false
line_allowed LineAuto LineEnd = false
line_allowed (Number n) a = both (le_z (negsuc 32767) n) (le_z n (pos 32767))
line_allowed (LinePercent p) a = leb p 10000

abbrev pub position_allowed : Position → PositionAlign → Bool
position_allowed Auto PositionAuto = true
position_allowed Auto LineLeft = false
position_allowed Auto PositionCenter = false
position_allowed Auto LineRight = false
position_allowed (Percent p) a = leb p 10000

-- no region, or a name that settings can hold
unfoldable pub region_allowed : List ℕ → Bool
region_allowed w = both (leb (length w) (length (front named w))) (identifier_text w)

unfoldable pub settings_allowed : Settings → Bool
settings_allowed x = both (line_allowed x.line x.line_align) (both (position_allowed x.position x.position_align) (leb x.size 10000))

-- and the form is no longer than settings may be
unfoldable pub writable : Record → Bool
writable r = both (settings_allowed r.settings) (both (region_allowed r.region) (leb (length (written r)) 255))
