-- Test by test.
use mathlib.Core.Path.{sym, ◌∙◌}
use native.Mathlib.Omega.{arith}
use Rattle.base.proofs.Choice.{true-false}
use Rattle.tx3g_payload_write.proofs.Breaks.{stays, gone-after, gone-last, line-feed}
use Rattle.tx3g_payload_write.proofs.left_of.Goals.{then-after, else-after}
use Rattle.tx3g_payload_write.proofs.left_of.Goals as goal

pub returns-then-not-is_break : goal.returns-then-not-is_break
returns-then-not-is_break c = (stays _ _ _ (sym c.if-not-is_break.true ∙ c.is_break.ensures), c.requires.2)

pub returns-then-only_breaks : goal.returns-then-only_breaks
returns-then-only_breaks c = elim c.if-after.branch [
  | then-after w ↦ (gone-after _ _ _ (sym c.if-not-is_break.false ∙ c.is_break.ensures) w.if-after.true, tt)
  | else-after w ↦ (gone-last _ _ _ (sym c.if-not-is_break.false ∙ c.is_break.ensures) (sym c.if-only_breaks.true ∙ w.value-is ∙ w.only_breaks.ensures), tt)
]

pub returns-else-only_breaks : goal.returns-else-only_breaks
returns-else-only_breaks c = elim c.if-after.branch [
  | then-after w ↦ true-false _ (w.value-is ∙ w.if-after.true) c.if-only_breaks.false
  | else-after w ↦ (line-feed _ _ _ (sym c.if-not-is_break.false ∙ c.is_break.ensures) w.if-after.false (sym c.if-only_breaks.false ∙ w.value-is ∙ w.only_breaks.ensures), omega arith)
]
