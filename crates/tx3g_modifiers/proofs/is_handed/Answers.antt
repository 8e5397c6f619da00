-- `tx3g_modifiers::is_handed` meets its contract.
use Rattle.tx3g_modifiers.proofs.Laws.{handed-blnk, handed-other}
use borrow.Author.Tests.{eq-eqb}
use mathlib.Core.Bool.{not}
use mathlib.Core.Path.{ap, ◌∙◌}
use Rattle.tx3g_modifiers.proofs.is_handed.Goals as goal

pub returns-then-kind-ne-BLNK : goal.returns-then-kind-ne-BLNK
returns-then-kind-ne-BLNK c = c.is_known.ensures ∙ handed-other _ c.if-kind-ne-BLNK.true

pub returns-else-kind-ne-BLNK : goal.returns-else-kind-ne-BLNK
returns-else-kind-ne-BLNK c = ap not (eq-eqb _ _ c.if-kind-ne-BLNK.false) ∙ handed-blnk _ c.if-kind-ne-BLNK.false
