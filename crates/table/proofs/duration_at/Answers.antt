-- `table::duration_at` meets its contract: the field is the definition's.
use Rattle.table.specs.Table.{duration_of}
use Rattle.table.proofs.duration_at.Goals as goal

pub returns : goal.returns
unfolding duration_of
returns c = c.get32.ensures
