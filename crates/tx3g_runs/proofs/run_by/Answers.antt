use borrow.Author.Tests.{lt-ltb, le-ltb}
use Rattle.tx3g_runs.specs.Runs.{run_by}
use Rattle.tx3g_runs.proofs.run_by.Goals as goal

pub returns-then-k-start : goal.returns-then-k-start
unfolding run_by
returns-then-k-start c = rw (c.min.ensures, ← c.get16-start.ensures.0, lt-ltb _ _ c.if-k-start.true)

pub returns-else-k-start : goal.returns-else-k-start
unfolding run_by
returns-else-k-start c = rw (c.min-else-k-start.ensures, c.get16.ensures.0, c.read_style.ensures, ← c.get16-start.ensures.0, le-ltb _ _ c.if-k-start.false)
