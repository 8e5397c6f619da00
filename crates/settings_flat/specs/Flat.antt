-- Settings as C sees them, and what numbers stand for.
use Rattle.std.specs.Prelude.{ℕ, Bool, List, eqb, leb, ℤ, pos}
use Rattle.base.specs.Choice.{pick, both}
use Rattle.verdict.specs.declared.Refusal.{Refusal}
use Rattle.verdict.specs.Judgement.{fault}
use Rattle.wvtt_entry_write.specs.Written.{Written, Refused as NotWritten}
use Rattle.wvtt_entry_write.specs.Writing.{lent}
use Rattle.settings.specs.declared.Vertical.{Vertical}
use Rattle.settings.specs.declared.Vertical.TheVariants.{None, Rl, Lr}
use Rattle.settings.specs.declared.Line.{Line}
use Rattle.settings.specs.declared.Line.TheVariants.{Auto as LineAuto, Number, Percent as LinePercent}
use Rattle.settings.specs.declared.LineAlign.{LineAlign}
use Rattle.settings.specs.declared.LineAlign.TheVariants.{Start as LineStart, Center as LineCenter, End as LineEnd}
use Rattle.settings.specs.declared.Position.{Position}
use Rattle.settings.specs.declared.Position.TheVariants.{Auto, Percent}
use Rattle.settings.specs.declared.PositionAlign.{PositionAlign}
use Rattle.settings.specs.declared.PositionAlign.TheVariants.{Auto as PositionAuto, LineLeft, Center as PositionCenter, LineRight}
use Rattle.settings.specs.declared.Align.{Align}
use Rattle.settings.specs.declared.Align.TheVariants.{Start, Center, End, Left, Right}
use Rattle.settings.specs.declared.Settings.{Settings}
use Rattle.settings.specs.declared.Reading.{Reading}
use Rattle.settings.specs.Read.{Read, Done, Refused}
use Rattle.settings_write.specs.Writing.{settings_room}
use Rattle.settings_flat.specs.declared.CaptionsSettings.{CaptionsSettings}
use Rattle.settings_flat.specs.declared.CaptionsSettingsRead.{CaptionsSettingsRead}

-- ---- the number of each value

abbrev pub flat_vertical : Vertical → ℕ
flat_vertical None = 0
flat_vertical Rl = 1
flat_vertical Lr = 2

abbrev pub flat_line_align : LineAlign → ℕ
flat_line_align LineStart = 0
flat_line_align LineCenter = 1
flat_line_align LineEnd = 2

abbrev pub flat_position_align : PositionAlign → ℕ
flat_position_align PositionAuto = 0
flat_position_align LineLeft = 1
flat_position_align PositionCenter = 2
flat_position_align LineRight = 3

abbrev pub flat_align : Align → ℕ
flat_align Start = 0
flat_align Center = 1
flat_align End = 2
flat_align Left = 3
flat_align Right = 4

-- a line: its kind, its number and its percentage, 0 where it has none
abbrev pub line_kind : Line → ℕ
line_kind LineAuto = 0
line_kind (Number n) = 1
line_kind (LinePercent p) = 2

abbrev pub line_number : Line → ℤ
line_number LineAuto = pos 0
line_number (Number n) = n
line_number (LinePercent p) = pos 0

abbrev pub line_percent : Line → ℕ
line_percent LineAuto = 0
line_percent (Number n) = 0
line_percent (LinePercent p) = p

abbrev pub position_kind : Position → ℕ
position_kind Auto = 0
position_kind (Percent p) = 1

abbrev pub position_percent : Position → ℕ
position_percent Auto = 0
position_percent (Percent p) = p

unfoldable pub flat_settings : Settings → CaptionsSettings
flat_settings x =
    record {
      vertical = flat_vertical x.vertical;
      line = line_kind x.line;
      line_align = flat_line_align x.line_align;
      position = position_kind x.position;
      position_align = flat_position_align x.position_align;
      align = flat_align x.align;
      line_number = line_number x.line;
      line_percent = line_percent x.line;
      position_percent = position_percent x.position;
      size = x.size;
    }

-- ---- the answer of reading

abbrev pub no_settings : Refusal → CaptionsSettingsRead
no_settings r =
    record {
      refusal = r;
      settings = record { vertical = 0; line = 0; line_align = 0; position = 0; position_align = 0; align = 0; line_number = pos 0; line_percent = 0; position_percent = 0; size = 0 };
      region_from = 0;
      region_end = 0;
    }

abbrev pub flat_done : Reading → CaptionsSettingsRead
flat_done x = record { refusal = fault 0 0; settings = flat_settings x.settings; region_from = x.from; region_end = x.end }

abbrev pub flat_read : Read → CaptionsSettingsRead
flat_read (Done x) = flat_done x
flat_read (Refused r) = no_settings r

-- ---- what numbers stand for

-- each is the number of a value
unfoldable pub known : CaptionsSettings → Bool
known x = both (leb x.vertical 2) (both (leb x.line 2) (both (leb x.line_align 2) (both (leb x.position 1) (both (leb x.position_align 3) (leb x.align 4)))))

unfoldable pub vertical_of : ℕ → Vertical
vertical_of n = pick (eqb n 0) None (pick (eqb n 1) Rl Lr)

unfoldable pub line_of : ℕ → ℤ → ℕ → Line
line_of kind n p = pick (eqb kind 0) LineAuto (pick (eqb kind 1) (Number n) (LinePercent p))

unfoldable pub line_align_of : ℕ → LineAlign
line_align_of n = pick (eqb n 0) LineStart (pick (eqb n 1) LineCenter LineEnd)

unfoldable pub position_of : ℕ → ℕ → Position
position_of kind p = pick (eqb kind 0) Auto (Percent p)

unfoldable pub position_align_of : ℕ → PositionAlign
position_align_of n = pick (eqb n 0) PositionAuto (pick (eqb n 1) LineLeft (pick (eqb n 2) PositionCenter LineRight))

unfoldable pub align_of : ℕ → Align
align_of n = pick (eqb n 0) Start (pick (eqb n 1) Center (pick (eqb n 2) End (pick (eqb n 3) Left Right)))

-- numbers that are none stand for the last value; `known` tells them
unfoldable pub settings_of : CaptionsSettings → Settings
settings_of x =
    record {
      vertical = vertical_of x.vertical;
      line = line_of x.line x.line_number x.line_percent;
      line_align = line_align_of x.line_align;
      position = position_of x.position x.position_percent;
      position_align = position_align_of x.position_align;
      size = x.size;
      align = align_of x.align;
    }

-- ---- the answers of writing: 8 for a number that stands for nothing

unfoldable pub given_room : CaptionsSettings → List ℕ → Written
given_room x w = pick (known x) (settings_room (settings_of x) w) (NotWritten (fault 8 0))

unfoldable pub given_written : CaptionsSettings → List ℕ → ℕ → Written
unfolding given_room
given_written x w room = lent (given_room x w) room
