use mathlib.Core.Path.{sym, ◌∙◌}
use Rattle.text.specs.Beginnings.{unended}
use Rattle.text.proofs.judge_end.Goals as goal

pub returns-in_default : goal.returns-in_default
unfolding unended
returns-in_default c = rw c.in_default.is

pub returns-then-ends_line : goal.returns-then-ends_line
unfolding unended
returns-then-ends_line c = rw (c.in-Ok.is, sym c.ends_line.ensures ∙ c.if-ends_line.true)

pub returns-else-ends_line : goal.returns-else-ends_line
unfolding unended
returns-else-ends_line c = rw (c.in-Ok.is, sym c.ends_line.ensures ∙ c.if-ends_line.false)
