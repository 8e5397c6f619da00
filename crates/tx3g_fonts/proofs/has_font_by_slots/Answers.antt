-- `tx3g_fonts::has_font_by_slots` meets its contract: an ID in its slot is that of a font.
use borrow.Author.Tests.{eq-eqb}
use mathlib.Core.Path.{sym, ◌∙◌}
use Rattle.tx3g_fonts.proofs.has_font_by_slots.Goals as goal

pub returns-then-slots-id : goal.returns-then-slots-id
returns-then-slots-id c = eq-eqb _ _ c.if-slots-id.true ∙ sym (c.requires.1.found _ c.requires.2 c.if-slots-id.true)
