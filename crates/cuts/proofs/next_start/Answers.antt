use borrow.Author.Tests.{lt-ltb, le-ltb}
use Rattle.cuts.proofs.next_start.Goals as goal

pub returns-then-last-n : goal.returns-then-last-n
returns-then-last-n c = rw (lt-ltb _ _ c.if-last-n.true) c.start_tick.ensures

pub returns-else-last-n : goal.returns-else-last-n
returns-else-last-n c = rw (le-ltb _ _ c.if-last-n.false)
