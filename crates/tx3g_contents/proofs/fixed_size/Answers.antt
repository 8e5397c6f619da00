-- `tx3g_contents::fixed_size` meets its contract.
use Rattle.tx3g_contents.specs.Contents.{fixed_size}
use Rattle.std.proofs.lemmas.Bool.Decides.{nat_tests}
use native.Mathlib.Omega.{arith}
use Rattle.tx3g_contents.proofs.fixed_size.Goals as goal

pub returns-in-1952608120 : goal.returns-in-1952608120
unfolding fixed_size
returns-in-1952608120 c = (rw c.in-1952608120.is, omega arith)

pub returns-in-1953985136 : goal.returns-in-1953985136
unfolding fixed_size
returns-in-1953985136 c = (rw c.in-1953985136.is, omega arith)

pub returns-in_default : goal.returns-in_default
unfolding fixed_size
returns-in_default c = (grind (arith, nat_tests), omega arith)
