-- `signed::is_ordered` meets its contract: the two orders in turn.
use Rattle.signed.specs.Signed.{ordered}
use mathlib.Core.Path.{sym, ◌∙◌}
use Rattle.signed.proofs.is_ordered.Goals as goal

pub returns-then-at_most : goal.returns-then-at_most
unfolding ordered
returns-then-at_most c = rw (sym c.at_most.ensures ∙ c.if-at_most.true) c.at_most-then-at_most.ensures

pub returns-else-at_most : goal.returns-else-at_most
unfolding ordered
returns-else-at_most c = rw (sym c.at_most.ensures ∙ c.if-at_most.false) c.if-at_most.false
