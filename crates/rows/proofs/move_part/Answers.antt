use mathlib.Core.Path.{refl}
use Rattle.rows.specs.Table.{moved}
use Rattle.rows.proofs.move_part.Goals as goal

pub returns : goal.returns
unfolding moved
returns c = refl
