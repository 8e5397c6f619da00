-- Field by field.
use mir.Syntax.{w16}
use mir.Facts.{to_z-of_z}
use Rattle.settings_flat.specs.Flat.{settings_of}
use Rattle.settings_flat.proofs.settings_of.Goals as goal

pub returns : goal.returns
unfolding settings_of
returns c = rw (c.vertical_of.ensures, c.line_of.ensures, c.line_align_of.ensures, c.position_of.ensures, c.position_align_of.ensures, c.align_of.ensures, to_z-of_z {w = w16} {z = c.args.x.line_number} (record { sfits = c.struct_told-1.given.1.1.1.1.1.1.0.1 }))
