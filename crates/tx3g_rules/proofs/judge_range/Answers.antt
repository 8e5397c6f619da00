-- `tx3g_rules::judge_range` meets its contract.
use Rattle.tx3g_rules.specs.Rules.{range_fault}
use Rattle.tx3g_rules.proofs.judge_range.Goals as goal

pub returns-then-is_range : goal.returns-then-is_range
unfolding range_fault
returns-then-is_range c = rw (← c.is_range.ensures, c.if-is_range.true)

pub returns-else-is_range : goal.returns-else-is_range
unfolding range_fault
returns-else-is_range c = rw (← c.is_range.ensures, c.if-is_range.false) c.refused.ensures
