use Rattle.std.proofs.lemmas.Bool.Decides.{nat_tests}
use native.Mathlib.Omega.{arith}
use Rattle.tx3g_runs.proofs.has_style.Goals as goal

pub returns-then-s-ge12 : goal.returns-then-s-ge12
returns-then-s-ge12 c = grind (arith, nat_tests)
