use mathlib.Core.Path.{◌∙◌}
use Rattle.tx3g_tidy.proofs.Marks.{one-if}
use Rattle.tx3g_tidy.proofs.mark_for.Goals as goal

pub returns : goal.returns
returns c = c.from.ensures ∙ one-if _
