-- Three writings, one behind the other.
use Rattle.tx3g_tidy.proofs.Parts.{part-wrote}
use Rattle.tx3g_tidy.proofs.put_part.Goals as goal

pub returns : goal.returns
returns c = part-wrote _ _ _ _ _ _ _ _ _ _ c.requires.2 c.put_opens-begun.ensures c.put_text-mid.ensures c.put_closes.ensures
