-- A minus sign, digits only, or a percentage.
use mathlib.Core.Path.{sym, ◌∙◌}
use Rattle.settings_values.proofs.Laws.{line-none, line-minus, line-number, line-percent}
use Rattle.settings_values.proofs.read_line.Goals as goal

pub returns-then-s-eq0 : goal.returns-then-s-eq0
returns-then-s-eq0 c = sym (line-none _ c.if-s-eq0.true)

pub returns-then-s-eq45 : goal.returns-then-s-eq45
returns-then-s-eq45 c = c.read_negative.ensures ∙ sym (line-minus _ c.if-s-eq0.false c.if-s-eq45.true)

pub returns-then-s-d : goal.returns-then-s-d
returns-then-s-d c = c.end_number.ensures ∙ sym (line-number _ _ c.read_digits-d.ensures.0 c.if-s-eq0.false c.if-s-eq45.false c.if-s-d.true)

pub returns-in-Some : goal.returns-in-Some
returns-in-Some c = rw (← c.end_percent-t.ensures, c.in-Some.is) at (sym (line-percent _ _ c.read_digits-d.ensures.0 c.if-s-eq0.false c.if-s-eq45.false c.if-s-d.false))

pub returns-in-None : goal.returns-in-None
returns-in-None c = rw (← c.end_percent-t.ensures, c.in-None.is) at (sym (line-percent _ _ c.read_digits-d.ensures.0 c.if-s-eq0.false c.if-s-eq45.false c.if-s-d.false))
