-- `tx3g_fonts::has_font` meets its contract: the search over as many fonts as are counted.
use Rattle.tx3g_fonts.proofs.Laws.{fonts-from}
use Rattle.tx3g_fonts.specs.Fonts.{has_font}
use Rattle.fields.specs.BigEndian.{be}
use native.Mathlib.Omega.{arith}
use Rattle.tx3g_fonts.proofs.has_font.Goals as goal

pub get16-count-requires : goal.get16-count-requires
get16-count-requires c = let w = fonts-from c.args.s.now c.args.body (be 2 c.args.s.now c.args.body) in omega arith

pub is_among-requires : goal.is_among-requires
is_among-requires c = rw c.get16-count.ensures.0 c.requires

pub returns : goal.returns
unfolding has_font
returns c = rw (← c.get16-count.ensures.0) c.is_among.ensures
