-- `tx3g_fonts::pass_font` meets its contract: a font ends behind its name.
use Rattle.tx3g_fonts.specs.Fonts.{after_font}
use native.Mathlib.Omega.{arith}
use Rattle.tx3g_fonts.proofs.pass_font.Goals as goal

pub returns : goal.returns
unfolding after_font
returns c = (rw c.get8.ensures.0, omega arith, omega arith)
