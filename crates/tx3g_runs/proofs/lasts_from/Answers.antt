use Rattle.std.proofs.lemmas.Bool.Decides.{nat_tests}
use native.Mathlib.Omega.{arith}
use Rattle.tx3g_runs.specs.Runs.{lasts}
use Rattle.tx3g_runs.proofs.lasts_from.Goals as goal

pub returns-then-k-end : goal.returns-then-k-end
unfolding lasts
returns-then-k-end c = rw (← c.get16-end.ensures.0, ← c.get16.ensures.0) (grind (arith, nat_tests))

pub returns-else-k-end : goal.returns-else-k-end
unfolding lasts
returns-else-k-end c = rw (← c.get16-end.ensures.0) (grind (arith, nat_tests))
