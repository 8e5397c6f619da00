use Rattle.std.proofs.Common.{arith}
use Rattle.std.proofs.lemmas.Grind.{common_steps}
use Rattle.std.proofs.lemmas.Bool.Decides.{nat_tests}
use Rattle.base.specs.Choice.{within}
use Rattle.ascii.proofs.is_within.Goals as goal

pub returns : goal.returns
unfolding within
returns c = grind (arith, common_steps, nat_tests, c.contains.ensures.value)
