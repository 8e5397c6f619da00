-- A word as it is read, if it is a setting.
use Rattle.std.specs.Prelude.{ℕ, Option, Some, None}
use Rattle.settings.specs.declared.Vertical.{Vertical}
use Rattle.settings.specs.declared.Line.{Line}
use Rattle.settings.specs.declared.LineAlign.{LineAlign}
use Rattle.settings.specs.declared.Position.{Position}
use Rattle.settings.specs.declared.PositionAlign.{PositionAlign}
use Rattle.settings.specs.declared.Align.{Align}
use Rattle.settings.specs.declared.Parsed.{Parsed}
use Rattle.settings.specs.declared.Parsed.TheVariants.{Vertical as IsVertical, Line as IsLine, Position as IsPosition, Size as IsSize, Align as IsAlign, Region as IsRegion}

abbrev pub Word : Type 0
Word = Option Parsed

pattern abbrev pub ToVertical : Vertical → Word
ToVertical v = Some (IsVertical v)

pattern abbrev pub ToLine : Line → LineAlign → Word
ToLine l a = Some (IsLine l a)

pattern abbrev pub ToPosition : Position → PositionAlign → Word
ToPosition p a = Some (IsPosition p a)

pattern abbrev pub ToSize : ℕ → Word
ToSize n = Some (IsSize n)

pattern abbrev pub ToAlign : Align → Word
ToAlign a = Some (IsAlign a)

pattern abbrev pub ToRegion : ℕ → ℕ → Word
ToRegion from end = Some (IsRegion from end)

pattern abbrev pub Malformed : Word
Malformed = None
