-- `tx3g_rules::judge_text_box` meets its contract.
use Rattle.tx3g_rules.specs.Rules.{box_fault}
use Rattle.tx3g_rules.proofs.judge_text_box.Goals as goal

pub returns-then-is_ordered : goal.returns-then-is_ordered
unfolding box_fault
returns-then-is_ordered c = rw (← c.is_ordered.ensures, c.if-is_ordered.true)

pub returns-else-is_ordered : goal.returns-else-is_ordered
unfolding box_fault
returns-else-is_ordered c = rw (← c.is_ordered.ensures, c.if-is_ordered.false) c.refused.ensures
