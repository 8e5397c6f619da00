-- `verdict::fault_at` meets its contract, by the definition.
use mathlib.Core.Path.{refl}
use Rattle.verdict.specs.Judgement.{fault}
use Rattle.verdict.proofs.fault_at.Goals as goal

pub returns : goal.returns
unfolding fault
returns c = refl
