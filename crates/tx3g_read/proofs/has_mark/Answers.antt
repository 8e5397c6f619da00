use mathlib.Core.Path.{◌∙◌}
use Rattle.tx3g_read.proofs.Laws.{mark-is}
use Rattle.tx3g_read.proofs.has_mark.Goals as goal

pub returns : goal.returns
returns c = c.starts_with.ensures.value ∙ mark-is _
