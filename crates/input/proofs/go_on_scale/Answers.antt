-- `input::go_on_scale` meets its contract.
use borrow.Author.Tests.{eq-eqb, ne_eqb}
use mathlib.Core.Path.{sym, ◌∙◌}
use Rattle.input.proofs.go_on_scale.Goals as goal

pub grow-requires : goal.grow-requires
grow-requires c = sym c.is_digit.ensures ∙ c.if-is_digit.true

pub returns-then-is_digit : goal.returns-then-is_digit
returns-then-is_digit c = simp (← c.is_digit.ensures, c.if-is_digit.true, c.grow.ensures)

pub returns-then-b-eq32 : goal.returns-then-b-eq32
returns-then-b-eq32 c = simp (← c.is_digit.ensures, c.if-is_digit.false, eq-eqb _ _ c.if-b-eq32.true)

pub returns-else-b-eq32 : goal.returns-else-b-eq32
returns-else-b-eq32 c = simp (← c.is_digit.ensures, c.if-is_digit.false, ne_eqb _ _ c.if-b-eq32.false)
