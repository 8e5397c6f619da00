-- Laws of the definitions of specs/.
use Prim.Native.Nat.{ℕ, suc, ◌+◌, ◌≤◌}
use mathlib.Core.Bool.{Bool, true, false}
use native.Mathlib.Omega.{arith}
use Rattle.base.specs.Choice.{pick}

-- a count goes up by one at most
pub at_most_one : (b : Bool) (n : ℕ) → pick b (suc n) n ≤ n + 1
at_most_one true n = omega arith
at_most_one false n = omega arith
