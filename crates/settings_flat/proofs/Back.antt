-- Numbers stand for the value whose numbers they are.
use mathlib.Core.Path.{◌≡◌, refl}
use mathlib.Core.Bool.{true}
use lib.Dec.{leb}
use Rattle.settings.specs.declared.Vertical.{Vertical}
use Rattle.settings.specs.declared.Vertical.TheVariants.{None, Rl, Lr}
use Rattle.settings.specs.declared.Line.{Line}
use Rattle.settings.specs.declared.Line.TheVariants.{Auto as LineAuto, Number, Percent as LinePercent}
use Rattle.settings.specs.declared.LineAlign.{LineAlign}
use Rattle.settings.specs.declared.LineAlign.TheVariants.{Start as LineStart, Center as LineCenter, End as LineEnd}
use Rattle.settings.specs.declared.Position.{Position}
use Rattle.settings.specs.declared.Position.TheVariants.{Auto, Percent}
use Rattle.settings.specs.declared.PositionAlign.{PositionAlign}
use Rattle.settings.specs.declared.PositionAlign.TheVariants.{Auto as PositionAuto, LineLeft, Center as PositionCenter, LineRight}
use Rattle.settings.specs.declared.Align.{Align}
use Rattle.settings.specs.declared.Align.TheVariants.{Start, Center, End, Left, Right}
use Rattle.settings_flat.specs.Flat.{flat_vertical, flat_line_align, flat_position_align, flat_align, line_kind, line_number, line_percent, position_kind, position_percent, flat_settings, vertical_of, line_of, line_align_of, position_of, position_align_of, align_of, known, settings_of}
use Rattle.settings_flat.specs.Statements.{FlatComesBack}

vertical-back : (v : Vertical) → (leb (flat_vertical v) 2 ≡ true) × (vertical_of (flat_vertical v) ≡ v)
unfolding vertical_of
vertical-back None = (refl, refl)
vertical-back Rl = (refl, refl)
vertical-back Lr = (refl, refl)

line-back : (l : Line) → (leb (line_kind l) 2 ≡ true) × (line_of (line_kind l) (line_number l) (line_percent l) ≡ l)
unfolding line_of
line-back LineAuto = (refl, refl)
line-back (Number n) = (refl, refl)
line-back (LinePercent p) = (refl, refl)

line-align-back : (a : LineAlign) → (leb (flat_line_align a) 2 ≡ true) × (line_align_of (flat_line_align a) ≡ a)
unfolding line_align_of
line-align-back LineStart = (refl, refl)
line-align-back LineCenter = (refl, refl)
line-align-back LineEnd = (refl, refl)

position-back : (p : Position) → (leb (position_kind p) 1 ≡ true) × (position_of (position_kind p) (position_percent p) ≡ p)
unfolding position_of
position-back Auto = (refl, refl)
position-back (Percent p) = (refl, refl)

position-align-back : (a : PositionAlign) → (leb (flat_position_align a) 3 ≡ true) × (position_align_of (flat_position_align a) ≡ a)
unfolding position_align_of
position-align-back PositionAuto = (refl, refl)
position-align-back LineLeft = (refl, refl)
position-align-back PositionCenter = (refl, refl)
position-align-back LineRight = (refl, refl)

align-back : (a : Align) → (leb (flat_align a) 4 ≡ true) × (align_of (flat_align a) ≡ a)
unfolding align_of
align-back Start = (refl, refl)
align-back Center = (refl, refl)
align-back End = (refl, refl)
align-back Left = (refl, refl)
align-back Right = (refl, refl)

pub flat-comes-back : FlatComesBack
unfolding known settings_of flat_settings
flat-comes-back x =
    let v = vertical-back x.vertical in
    let l = line-back x.line in
    let m = line-align-back x.line_align in
    let p = position-back x.position in
    let q = position-align-back x.position_align in
    let a = align-back x.align in
    (rw (v.0, l.0, m.0, p.0, q.0, a.0), rw (v.1, l.1, m.1, p.1, q.1, a.1))
