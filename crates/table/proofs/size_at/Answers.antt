-- `table::size_at` meets its contract: the field is the definition's.
use Rattle.table.specs.Table.{size_of}
use Rattle.table.proofs.size_at.Goals as goal

pub returns : goal.returns
unfolding size_of
returns c = c.get32.ensures
