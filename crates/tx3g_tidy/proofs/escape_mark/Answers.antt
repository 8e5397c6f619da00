use Rattle.tx3g_tidy.proofs.Escapes.{marks-escape}
use Rattle.tx3g_tidy.proofs.escape_mark.Goals as goal

pub returns : goal.returns
returns c = marks-escape _ _ _ _ c.mark_for.ensures c.mark_for-2.ensures c.mark_for-3.ensures
