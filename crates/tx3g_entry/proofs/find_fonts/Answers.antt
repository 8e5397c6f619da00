-- `tx3g_entry::find_fonts` meets its contract.
use Rattle.tx3g_entry.specs.Entry.{fonts_of}
use Rattle.tx3g_entry.proofs.find_fonts.Goals as goal

pub returns : goal.returns
unfolding fonts_of
returns c = c.find_body.ensures
