use Rattle.tx3g_tidy.proofs.Marks.{marks_stay}
use Rattle.tx3g_tidy.proofs.untidy_mark.Goals as goal

pub returns : goal.returns
returns c = marks_stay _ _ _ _ _ _ c.mark_for.ensures c.mark_for-2.ensures c.mark_for-3.ensures c.mark_for-4.ensures
