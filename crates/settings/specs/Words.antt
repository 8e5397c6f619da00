-- The names and the words of settings. Document 02, K10.
use Rattle.std.specs.Prelude.{ℕ, List, [], ◌∷◌}
use Rattle.settings.specs.declared.Vertical.{Vertical}
use Rattle.settings.specs.declared.Vertical.TheVariants.{None, Rl, Lr}
use Rattle.settings.specs.declared.LineAlign.{LineAlign}
use Rattle.settings.specs.declared.LineAlign.TheVariants.{Start as LineStart, Center as LineCenter, End as LineEnd}
use Rattle.settings.specs.declared.PositionAlign.{PositionAlign}
use Rattle.settings.specs.declared.PositionAlign.TheVariants.{Auto as PositionAuto, LineLeft, Center as PositionCenter, LineRight}
use Rattle.settings.specs.declared.Align.{Align}
use Rattle.settings.specs.declared.Align.TheVariants.{Start, Center, End, Left, Right}

-- space, tab, form feed, `,` and `%`
abbrev pub SPACE : ℕ
SPACE = 0x20

abbrev pub TAB : ℕ
TAB = 0x09

abbrev pub FORM_FEED : ℕ
FORM_FEED = 0x0C

abbrev pub COMMA : ℕ
COMMA = 0x2C

abbrev pub PERCENT : ℕ
PERCENT = 0x25

-- the names, each with its colon
-- `vertical:`
abbrev pub VERTICAL : List ℕ
VERTICAL = 0x76 ∷ 0x65 ∷ 0x72 ∷ 0x74 ∷ 0x69 ∷ 0x63 ∷ 0x61 ∷ 0x6C ∷ 0x3A ∷ []

-- `line:`
abbrev pub LINE : List ℕ
LINE = 0x6C ∷ 0x69 ∷ 0x6E ∷ 0x65 ∷ 0x3A ∷ []

-- `position:`
abbrev pub POSITION : List ℕ
POSITION = 0x70 ∷ 0x6F ∷ 0x73 ∷ 0x69 ∷ 0x74 ∷ 0x69 ∷ 0x6F ∷ 0x6E ∷ 0x3A ∷ []

-- `size:`
abbrev pub SIZE : List ℕ
SIZE = 0x73 ∷ 0x69 ∷ 0x7A ∷ 0x65 ∷ 0x3A ∷ []

-- `align:`
abbrev pub ALIGN : List ℕ
ALIGN = 0x61 ∷ 0x6C ∷ 0x69 ∷ 0x67 ∷ 0x6E ∷ 0x3A ∷ []

-- `region:`
abbrev pub REGION : List ℕ
REGION = 0x72 ∷ 0x65 ∷ 0x67 ∷ 0x69 ∷ 0x6F ∷ 0x6E ∷ 0x3A ∷ []

-- the words of each value: `rl`, `lr`; none is never written
abbrev pub vertical_word : Vertical → List ℕ
vertical_word None = []
vertical_word Rl = 0x72 ∷ 0x6C ∷ []
vertical_word Lr = 0x6C ∷ 0x72 ∷ []

abbrev pub verticals : List Vertical
verticals = Rl ∷ Lr ∷ []

-- `start`, `center`, `end`
abbrev pub line_word : LineAlign → List ℕ
line_word LineStart = 0x73 ∷ 0x74 ∷ 0x61 ∷ 0x72 ∷ 0x74 ∷ []
line_word LineCenter = 0x63 ∷ 0x65 ∷ 0x6E ∷ 0x74 ∷ 0x65 ∷ 0x72 ∷ []
line_word LineEnd = 0x65 ∷ 0x6E ∷ 0x64 ∷ []

abbrev pub line_aligns : List LineAlign
line_aligns = LineStart ∷ LineCenter ∷ LineEnd ∷ []

-- `line-left`, `center`, `line-right`; auto is never written
abbrev pub position_word : PositionAlign → List ℕ
position_word PositionAuto = []
position_word LineLeft = 0x6C ∷ 0x69 ∷ 0x6E ∷ 0x65 ∷ 0x2D ∷ 0x6C ∷ 0x65 ∷ 0x66 ∷ 0x74 ∷ []
position_word PositionCenter = 0x63 ∷ 0x65 ∷ 0x6E ∷ 0x74 ∷ 0x65 ∷ 0x72 ∷ []
position_word LineRight = 0x6C ∷ 0x69 ∷ 0x6E ∷ 0x65 ∷ 0x2D ∷ 0x72 ∷ 0x69 ∷ 0x67 ∷ 0x68 ∷ 0x74 ∷ []

abbrev pub position_aligns : List PositionAlign
position_aligns = LineLeft ∷ PositionCenter ∷ LineRight ∷ []

-- `start`, `center`, `end`, `left`, `right`
abbrev pub align_word : Align → List ℕ
align_word Start = 0x73 ∷ 0x74 ∷ 0x61 ∷ 0x72 ∷ 0x74 ∷ []
align_word Center = 0x63 ∷ 0x65 ∷ 0x6E ∷ 0x74 ∷ 0x65 ∷ 0x72 ∷ []
align_word End = 0x65 ∷ 0x6E ∷ 0x64 ∷ []
align_word Left = 0x6C ∷ 0x65 ∷ 0x66 ∷ 0x74 ∷ []
align_word Right = 0x72 ∷ 0x69 ∷ 0x67 ∷ 0x68 ∷ 0x74 ∷ []

abbrev pub aligns : List Align
aligns = Start ∷ Center ∷ End ∷ Left ∷ Right ∷ []
