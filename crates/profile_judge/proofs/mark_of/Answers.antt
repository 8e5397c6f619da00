-- By the byte.
use Rattle.std.proofs.Common.{arith}
use Rattle.std.proofs.lemmas.Grind.{common_steps}
use Rattle.profile_judge.proofs.Laws.{is_plain}
use Rattle.profile_judge.proofs.mark_of.Goals as goal

pub returns : goal.returns
returns c = λ e. is_plain _ c.ranges.b.fits (λ z. grind (arith, common_steps, z, e)) (λ z. grind (arith, common_steps, z, e))
