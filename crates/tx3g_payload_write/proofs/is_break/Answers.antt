-- The two characters, and another.
use Rattle.std.proofs.lemmas.Bool.Decides.{nat_tests}
use native.Mathlib.Omega.{arith}
use Rattle.tx3g_payload.specs.Left.{is_break}
use Rattle.tx3g_payload_write.proofs.is_break.Goals as goal

pub returns-in-13 : goal.returns-in-13
unfolding is_break
returns-in-13 c = grind (arith, nat_tests)

pub returns-in_default : goal.returns-in_default
unfolding is_break
returns-in_default c = grind (arith, nat_tests)
