-- `tx3g_rules::follows_style` meets its contract.
use borrow.Author.Tests.{le-leb, lt-leb}
use Rattle.tx3g_rules.proofs.follows_style.Goals as goal

pub returns-then-previous-get16 : goal.returns-then-previous-get16
returns-then-previous-get16 c = rw (← c.get16.ensures.0, le-leb _ _ c.if-previous-get16.true) c.is_range.ensures

pub returns-else-previous-get16 : goal.returns-else-previous-get16
returns-else-previous-get16 c = rw (← c.get16.ensures.0, lt-leb _ _ c.if-previous-get16.false)
