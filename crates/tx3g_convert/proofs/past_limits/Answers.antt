-- Either test.
use borrow.Author.Tests.{le-leb, lt-leb}
use Rattle.tx3g_convert.proofs.past_limits.Goals as goal

pub returns-then-state-ge1024 : goal.returns-then-state-ge1024
returns-then-state-ge1024 c = rw (le-leb 1024 c.args.state.cues c.if-state-ge1024.true)

pub returns-else-state-ge1024 : goal.returns-else-state-ge1024
returns-else-state-ge1024 c = rw (lt-leb 1024 c.args.state.cues c.if-state-ge1024.false)
