use Rattle.tx3g_read.proofs.Laws.{colour-is}
use Rattle.tx3g_read.proofs.read_colour.Goals as goal

pub returns : goal.returns
returns c = colour-is _ _ _ _ _ _ c.get8.ensures.0 c.get8-2.ensures.0 c.get8-3.ensures.0 c.get8-4.ensures.0
