-- `tx3g_seen::mark` meets its contract.
use borrow.Author.Tests.{eq-eqb, ne_eqb}
use Rattle.tx3g_seen.proofs.mark.Goals as goal

pub returns-then-kind-wanted : goal.returns-then-kind-wanted
returns-then-kind-wanted c = simp (eq-eqb _ _ c.if-kind-wanted.true)

pub returns-else-kind-wanted : goal.returns-else-kind-wanted
returns-else-kind-wanted c = simp (ne_eqb _ _ c.if-kind-wanted.false)
