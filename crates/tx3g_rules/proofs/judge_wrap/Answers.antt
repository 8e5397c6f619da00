-- `tx3g_rules::judge_wrap` meets its contract.
use Rattle.tx3g_rules.specs.Rules.{wrap_fault}
use borrow.Author.Tests.{le-ltb, lt-ltb}
use Rattle.tx3g_rules.proofs.judge_wrap.Goals as goal

pub returns-then-get8-gt1 : goal.returns-then-get8-gt1
unfolding wrap_fault
returns-then-get8-gt1 c = rw (← c.get8.ensures.0, lt-ltb _ _ c.if-get8-gt1.true) c.refused.ensures

pub returns-else-get8-gt1 : goal.returns-else-get8-gt1
unfolding wrap_fault
returns-else-get8-gt1 c = rw (← c.get8.ensures.0, le-ltb _ _ c.if-get8-gt1.false)
