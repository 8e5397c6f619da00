-- `tx3g_style::read_style` meets its contract.
use Rattle.tx3g_style.specs.Style.{style_in}
use Rattle.tx3g_style.proofs.read_style.Goals as goal

pub returns : goal.returns
unfolding style_in
returns c = rw (c.get16.ensures.0, c.get16-2.ensures.0, c.get16-3.ensures.0, c.get8.ensures.0, c.get8-2.ensures.0, c.get8-3.ensures.0, c.get8-4.ensures.0, c.get8-5.ensures.0, c.get8-6.ensures.0)
