-- `tx3g_modifiers::is_whole` meets its contract.
use Rattle.tx3g_modifiers.proofs.Laws.{whole-filled, whole-not, whole-other}
use mathlib.Core.Path.{sym, ◌∙◌}
use Rattle.tx3g_modifiers.proofs.is_whole.Goals as goal

pub returns-in-Ok : goal.returns-in-Ok
returns-in-Ok c = sym (whole-filled _ _ _ _ _ _ (sym c.is_handed.ensures ∙ c.if-is_handed.true) c.judge_content.ensures c.in-Ok.is)

pub returns-in_default : goal.returns-in_default
returns-in_default c = sym (whole-not _ _ _ _ _ _ _ (sym c.is_handed.ensures ∙ c.if-is_handed.true) c.judge_content.ensures c.in_default.is)

pub returns-else-is_handed : goal.returns-else-is_handed
returns-else-is_handed c = c.if-is_handed.false ∙ sym (whole-other _ _ _ _ (sym c.is_handed.ensures ∙ c.if-is_handed.false))
