-- Field by field.
use Rattle.vtt_read.proofs.row_of.Goals as goal

pub returns : goal.returns
returns c = rw c.mark_of.ensures
