use mathlib.Core.Path.{◌∙◌}
use native.Mathlib.Omega.{arith}
use Rattle.base.proofs.Tests.{both_yes, one-of-no}
use Rattle.utf8.specs.Strings.{starts_with_any}
use Rattle.utf8.specs.Forbidden.{not_in_payload}
use Rattle.utf8.specs.Machine.{ends_forbidden}
use Rattle.utf8.proofs.Windows.{other-in-payload, return-in-payload}
use Rattle.utf8.proofs.ends_in_payload.Goals as goal

pub returns-in-62 : goal.returns-in-62
unfolding ends_forbidden not_in_payload starts_with_any
returns-in-62 c = rw c.in-62.is (simp (both_yes, one-of-no) c.is_dashes.ensures)

pub returns-in-10 : goal.returns-in-10
unfolding ends_forbidden not_in_payload starts_with_any
returns-in-10 c = rw c.in-10.is (simp (both_yes, one-of-no))

pub returns-in-13 : goal.returns-in-13
returns-in-13 c = rw c.in-13.is (c.is_line_end.ensures ∙ return-in-payload c.args.p c.args.q)

pub returns-in_default : goal.returns-in_default
returns-in_default c = other-in-payload _ _ _ (λ z. omega (arith, z)) (λ z. omega (arith, z)) (λ z. omega (arith, z))
