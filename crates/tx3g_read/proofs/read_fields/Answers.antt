use Rattle.tx3g_read.proofs.Laws.{fields-are}
use native.Mathlib.Omega.{arith}
use Rattle.signed.proofs.Laws.{kept8, kept16}
use Rattle.tx3g_read.proofs.read_fields.Goals as goal

pub returns : goal.returns
returns c =
    fields-are _ _ _ _ _ _ _ _ _ _ _ _ _
    c.get16.ensures.0
    c.get32.ensures.0
    (kept8 _ _ c.get_signed8.ensures.0 c.get_signed8.ensures.1)
    (kept8 _ _ c.get_signed8-2.ensures.0 c.get_signed8-2.ensures.1)
    c.read_colour.ensures
    (kept16 _ _ c.get_signed16.ensures.0 c.get_signed16.ensures.1)
    (kept16 _ _ c.get_signed16-2.ensures.0 c.get_signed16-2.ensures.1)
    (kept16 _ _ c.get_signed16-3.ensures.0 c.get_signed16-3.ensures.1)
    (kept16 _ _ c.get_signed16-4.ensures.0 c.get_signed16-4.ensures.1)
    c.read_style.ensures
    c.get16-2.ensures.0

pub overflow_add-result : goal.overflow_add-result
overflow_add-result c = omega (arith, c.requires.1, c.well_formed.0.0)
