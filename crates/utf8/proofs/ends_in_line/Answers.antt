use mathlib.Core.Path.{◌∙◌}
use native.Mathlib.Omega.{arith}
use Rattle.base.proofs.Tests.{both_yes, one-of-no}
use Rattle.utf8.specs.Strings.{starts_with_any}
use Rattle.utf8.specs.Forbidden.{not_in_line}
use Rattle.utf8.specs.Machine.{ends_forbidden}
use Rattle.utf8.proofs.Windows.{other-in-line}
use Rattle.utf8.proofs.ends_in_line.Goals as goal

pub returns-in-62 : goal.returns-in-62
unfolding ends_forbidden not_in_line starts_with_any
returns-in-62 c = rw c.in-62.is (simp (both_yes, one-of-no) c.is_dashes.ensures)

pub returns-in-0 : goal.returns-in-0
unfolding ends_forbidden not_in_line starts_with_any
returns-in-0 c = rw c.in-0.is

pub returns-in_default : goal.returns-in_default
returns-in_default c = c.is_line_end.ensures ∙ other-in-line _ _ _ (λ z. omega (arith, z)) (λ z. omega (arith, z))
