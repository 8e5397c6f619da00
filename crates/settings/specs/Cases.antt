-- Examples of docs/DECISIONS.md, 'Settings', computed.
use Rattle.std.specs.Prelude.{◌≡◌, false, [], ◌∷◌, pos}
use Rattle.verdict.specs.Judgement.{fault, bad_text}
use Rattle.settings.specs.declared.Vertical.TheVariants.{None, Rl, Lr}
use Rattle.settings.specs.declared.Line.TheVariants.{Auto as LineAuto, Number, Percent as LinePercent}
use Rattle.settings.specs.declared.LineAlign.TheVariants.{Start as LineStart, End as LineEnd}
use Rattle.settings.specs.declared.Position.TheVariants.{Auto, Percent}
use Rattle.settings.specs.declared.PositionAlign.TheVariants.{Auto as PositionAuto, LineLeft}
use Rattle.settings.specs.declared.Align.TheVariants.{Start, Center}
use Rattle.settings.specs.Read.{Done, Refused}
use Rattle.settings.specs.Reading.{read_settings}
use Rattle.settings.specs.Form.{written, writable}

pub record Cases : Type 0 where
  -- `line:1 line:2`: where the second begins
  pub twice : read_settings (0x6C ∷ 0x69 ∷ 0x6E ∷ 0x65 ∷ 0x3A ∷ 0x31 ∷ 0x20 ∷ 0x6C ∷ 0x69 ∷ 0x6E ∷ 0x65 ∷ 0x3A ∷ 0x32 ∷ []) ≡ Refused (fault 20 7)
  -- `line:auto`
  pub auto : read_settings (0x6C ∷ 0x69 ∷ 0x6E ∷ 0x65 ∷ 0x3A ∷ 0x61 ∷ 0x75 ∷ 0x74 ∷ 0x6F ∷ []) ≡ Refused (fault 20 0)
  -- `line:+1`
  pub plus : read_settings (0x6C ∷ 0x69 ∷ 0x6E ∷ 0x65 ∷ 0x3A ∷ 0x2B ∷ 0x31 ∷ []) ≡ Refused (fault 20 0)
  -- `line:-32769`
  pub too_low : read_settings (0x6C ∷ 0x69 ∷ 0x6E ∷ 0x65 ∷ 0x3A ∷ 0x2D ∷ 0x33 ∷ 0x32 ∷ 0x37 ∷ 0x36 ∷ 0x39 ∷ []) ≡ Refused (fault 20 0)
  -- `size:50.000%`
  pub three_decimals : read_settings (0x73 ∷ 0x69 ∷ 0x7A ∷ 0x65 ∷ 0x3A ∷ 0x35 ∷ 0x30 ∷ 0x2E ∷ 0x30 ∷ 0x30 ∷ 0x30 ∷ 0x25 ∷ []) ≡ Refused (fault 20 0)
  -- `size:100.01%`
  pub too_much : read_settings (0x73 ∷ 0x69 ∷ 0x7A ∷ 0x65 ∷ 0x3A ∷ 0x31 ∷ 0x30 ∷ 0x30 ∷ 0x2E ∷ 0x30 ∷ 0x31 ∷ 0x25 ∷ []) ≡ Refused (fault 20 0)
  -- `line:1,`
  pub no_alignment : read_settings (0x6C ∷ 0x69 ∷ 0x6E ∷ 0x65 ∷ 0x3A ∷ 0x31 ∷ 0x2C ∷ []) ≡ Refused (fault 20 0)
  -- `region:-->`: bad text, at its `>`
  pub arrow : read_settings (0x72 ∷ 0x65 ∷ 0x67 ∷ 0x69 ∷ 0x6F ∷ 0x6E ∷ 0x3A ∷ 0x2D ∷ 0x2D ∷ 0x3E ∷ []) ≡ Refused (bad_text 0 9)
  -- `line:-0`
  pub minus_zero : read_settings (0x6C ∷ 0x69 ∷ 0x6E ∷ 0x65 ∷ 0x3A ∷ 0x2D ∷ 0x30 ∷ []) ≡ Done (record { settings = record { vertical = None; line = (Number (pos 0)); line_align = LineStart; position = Auto; position_align = PositionAuto; size = 10000; align = Center }; from = 0; end = 0 })
  -- `region:a:b`: the name ends at the first colon
  pub two_colons : read_settings (0x72 ∷ 0x65 ∷ 0x67 ∷ 0x69 ∷ 0x6F ∷ 0x6E ∷ 0x3A ∷ 0x61 ∷ 0x3A ∷ 0x62 ∷ []) ≡ Done (record { settings = record { vertical = None; line = LineAuto; line_align = LineStart; position = Auto; position_align = PositionAuto; size = 10000; align = Center }; from = 7; end = 10 })
  -- ` position:012.5%,line-left`, a tab and `vertical:rl`
  pub both : read_settings (0x20 ∷ 0x70 ∷ 0x6F ∷ 0x73 ∷ 0x69 ∷ 0x74 ∷ 0x69 ∷ 0x6F ∷ 0x6E ∷ 0x3A ∷ 0x30 ∷ 0x31 ∷ 0x32 ∷ 0x2E ∷ 0x35 ∷ 0x25 ∷ 0x2C ∷ 0x6C ∷ 0x69 ∷ 0x6E ∷ 0x65 ∷ 0x2D ∷ 0x6C ∷ 0x65 ∷ 0x66 ∷ 0x74 ∷ 0x09 ∷ 0x76 ∷ 0x65 ∷ 0x72 ∷ 0x74 ∷ 0x69 ∷ 0x63 ∷ 0x61 ∷ 0x6C ∷ 0x3A ∷ 0x72 ∷ 0x6C ∷ []) ≡ Done (record { settings = record { vertical = Rl; line = LineAuto; line_align = LineStart; position = (Percent 1250); position_align = LineLeft; size = 10000; align = Center }; from = 0; end = 0 })
  -- `line:5`, not `line:5,start`
  pub start_left_out : written (record { settings = record { vertical = None; line = (Number (pos 5)); line_align = LineStart; position = Auto; position_align = PositionAuto; size = 10000; align = Center }; region = [] }) ≡ (0x6C ∷ 0x69 ∷ 0x6E ∷ 0x65 ∷ 0x3A ∷ 0x35 ∷ [])
  -- each in its place, each shortest
  pub in_order : written (record { settings = record { vertical = Lr; line = (LinePercent 3330); line_align = LineEnd; position = (Percent 0); position_align = PositionAuto; size = 5; align = Start }; region = (0x72 ∷ []) }) ≡ (0x76 ∷ 0x65 ∷ 0x72 ∷ 0x74 ∷ 0x69 ∷ 0x63 ∷ 0x61 ∷ 0x6C ∷ 0x3A ∷ 0x6C ∷ 0x72 ∷ 0x20 ∷ 0x6C ∷ 0x69 ∷ 0x6E ∷ 0x65 ∷ 0x3A ∷ 0x33 ∷ 0x33 ∷ 0x2E ∷ 0x33 ∷ 0x25 ∷ 0x2C ∷ 0x65 ∷ 0x6E ∷ 0x64 ∷ 0x20 ∷ 0x70 ∷ 0x6F ∷ 0x73 ∷ 0x69 ∷ 0x74 ∷ 0x69 ∷ 0x6F ∷ 0x6E ∷ 0x3A ∷ 0x30 ∷ 0x25 ∷ 0x20 ∷ 0x73 ∷ 0x69 ∷ 0x7A ∷ 0x65 ∷ 0x3A ∷ 0x30 ∷ 0x2E ∷ 0x30 ∷ 0x35 ∷ 0x25 ∷ 0x20 ∷ 0x61 ∷ 0x6C ∷ 0x69 ∷ 0x67 ∷ 0x6E ∷ 0x3A ∷ 0x73 ∷ 0x74 ∷ 0x61 ∷ 0x72 ∷ 0x74 ∷ 0x20 ∷ 0x72 ∷ 0x65 ∷ 0x67 ∷ 0x69 ∷ 0x6F ∷ 0x6E ∷ 0x3A ∷ 0x72 ∷ [])
  -- the defaults
  pub defaults_are_nothing : written (record { settings = record { vertical = None; line = LineAuto; line_align = LineStart; position = Auto; position_align = PositionAuto; size = 10000; align = Center }; region = [] }) ≡ []
  -- an alignment beside auto
  pub beside_auto : writable (record { settings = record { vertical = None; line = LineAuto; line_align = LineEnd; position = Auto; position_align = PositionAuto; size = 10000; align = Center }; region = [] }) ≡ false
