-- `verdict::move_to` meets its contract, by the definition.
use mathlib.Core.Path.{refl}
use Rattle.verdict.specs.Judgement.{moved}
use Rattle.verdict.proofs.move_to.Goals as goal

pub returns : goal.returns
unfolding moved
returns c = refl
