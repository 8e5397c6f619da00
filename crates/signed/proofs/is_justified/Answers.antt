-- `signed::is_justified` meets its contract: -1, or 0 or 1.
use Rattle.signed.proofs.Laws.{just-minus, just-other}
use borrow.Author.Tests.{eq-eqb}
use mathlib.Core.Path.{sym, ◌∙◌}
use Rattle.signed.proofs.is_justified.Goals as goal

pub returns-then-b-eq255 : goal.returns-then-b-eq255
returns-then-b-eq255 c = eq-eqb _ _ c.if-b-eq255.true ∙ just-minus _ (sym c.get8-b.ensures.0 ∙ c.if-b-eq255.true)

pub returns-else-b-eq255 : goal.returns-else-b-eq255
returns-else-b-eq255 c = let e = c.get8-b.ensures.0 in rw (← e) (just-other _ c.get8-b.ensures.1 c.if-b-eq255.false)
