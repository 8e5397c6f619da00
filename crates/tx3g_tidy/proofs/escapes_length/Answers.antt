use mathlib.Core.Path.{sym, ◌∙◌}
use native.Mathlib.Omega.{arith}
use borrow.Author.Tests.{eqb-true, not-false}
use Rattle.tx3g_tidy.proofs.escapes_length.Goals as goal

pub returns-else-has_escapes : goal.returns-else-has_escapes
returns-else-has_escapes c = (sym (eqb-true _ 0 (not-false _ (sym c.has_escapes.ensures ∙ c.if-has_escapes.false))), omega arith)
