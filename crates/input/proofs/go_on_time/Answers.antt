-- `input::go_on_time` meets its contract.
use borrow.Author.Tests.{eq-eqb, ne_eqb}
use mathlib.Core.Path.{sym, ◌∙◌}
use Rattle.input.proofs.go_on_time.Goals as goal

pub grow-t-requires : goal.grow-t-requires
grow-t-requires c = sym c.is_digit.ensures ∙ c.if-is_digit.true

pub returns-then-is_digit : goal.returns-then-is_digit
returns-then-is_digit c = simp (← c.is_digit.ensures, c.if-is_digit.true, c.grow-t.ensures)

pub returns-then-b-eq10 : goal.returns-then-b-eq10
returns-then-b-eq10 c = simp (← c.is_digit.ensures, c.if-is_digit.false, eq-eqb _ _ c.if-b-eq10.true)

pub returns-else-b-eq10 : goal.returns-else-b-eq10
returns-else-b-eq10 c = simp (← c.is_digit.ensures, c.if-is_digit.false, ne_eqb _ _ c.if-b-eq10.false)
