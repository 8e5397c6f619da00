-- `input::is_digit` meets its contract.
use Rattle.std.proofs.Common.{arith}
use Rattle.std.proofs.lemmas.Grind.{common_steps}
use Rattle.std.proofs.lemmas.Bool.Decides.{nat_tests}
use Rattle.base.specs.Choice.{within}
use Rattle.input.specs.Line.{is_digit}
use Rattle.input.proofs.is_digit.Goals as goal

pub returns : goal.returns
unfolding is_digit within
returns c = grind (arith, common_steps, nat_tests, c.contains.ensures.value)
