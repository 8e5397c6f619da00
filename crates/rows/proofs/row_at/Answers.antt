use mathlib.Core.Path.{refl}
use Rattle.rows.specs.Table.{row_at}
use Rattle.rows.proofs.row_at.Goals as goal

pub returns : goal.returns
unfolding row_at
returns c = refl
