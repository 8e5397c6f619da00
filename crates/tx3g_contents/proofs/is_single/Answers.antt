-- `tx3g_contents::is_single` meets its contract.
use Rattle.tx3g_contents.specs.Kinds.{single}
use Rattle.std.proofs.lemmas.Bool.Decides.{nat_tests}
use native.Mathlib.Omega.{arith}
use Rattle.tx3g_contents.proofs.is_single.Goals as goal

pub returns-in-1937013100 : goal.returns-in-1937013100
unfolding single
returns-in-1937013100 c = grind (arith, nat_tests)

pub returns-in_default : goal.returns-in_default
unfolding single
returns-in_default c = grind (arith, nat_tests)
