-- The four tests, joined.
use Rattle.tx3g_payload_write.proofs.Plain.{mark-is}
use Rattle.tx3g_payload_write.proofs.mark_of.Goals as goal

pub returns : goal.returns
returns c = mark-is _ c.outer_mark.result c.mark_for.result c.mark_for-2.result c.mark_for-3.result c.outer_mark.ensures c.mark_for.ensures c.mark_for-2.ensures c.mark_for-3.ensures
