use mathlib.Core.Path.{refl}
use Rattle.unpack_write.specs.Rows.{row_size}
use Rattle.unpack_write.proofs.Laws.{size-most}
use Rattle.unpack_write.proofs.row_size.Goals as goal

pub returns : goal.returns
unfolding row_size
returns c = (refl, size-most _ c.requires)
