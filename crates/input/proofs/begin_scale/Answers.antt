-- `input::begin_scale` meets its contract.
use mathlib.Core.Path.{sym, ◌∙◌}
use Rattle.input.proofs.begin_scale.Goals as goal

pub grow-requires : goal.grow-requires
grow-requires c = sym c.is_digit.ensures ∙ c.if-is_digit.true

pub returns-then-is_digit : goal.returns-then-is_digit
returns-then-is_digit c = simp (← c.is_digit.ensures, c.if-is_digit.true, c.grow.ensures)

pub returns-else-is_digit : goal.returns-else-is_digit
returns-else-is_digit c = simp (← c.is_digit.ensures, c.if-is_digit.false)
