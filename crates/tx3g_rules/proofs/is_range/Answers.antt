-- `tx3g_rules::is_range` meets its contract.
use Rattle.tx3g_rules.specs.Rules.{in_range}
use borrow.Author.Tests.{le-leb, lt-leb}
use Rattle.tx3g_rules.proofs.is_range.Goals as goal

pub returns-then-get16-end : goal.returns-then-get16-end
unfolding in_range
returns-then-get16-end c = rw (← c.get16-end.ensures.0, ← c.get16.ensures.0, le-leb _ _ c.if-get16-end.true)

pub returns-else-get16-end : goal.returns-else-get16-end
unfolding in_range
returns-else-get16-end c = rw (← c.get16-end.ensures.0, ← c.get16.ensures.0, lt-leb _ _ c.if-get16-end.false)
