-- `tx3g_contents::is_ranged` meets its contract.
use Rattle.tx3g_contents.specs.Kinds.{ranged}
use Rattle.std.proofs.lemmas.Bool.Decides.{nat_tests}
use native.Mathlib.Omega.{arith}
use Rattle.tx3g_contents.proofs.is_ranged.Goals as goal

pub returns-in-1751935348 : goal.returns-in-1751935348
unfolding ranged
returns-in-1751935348 c = grind (arith, nat_tests)

pub returns-in_default : goal.returns-in_default
unfolding ranged
returns-in_default c = grind (arith, nat_tests)
