use Rattle.rows.specs.Table.{new_row}
use Rattle.rows.proofs.new_row.Goals as goal

pub returns : goal.returns
unfolding new_row
returns c = rw (c.move_part-3.ensures, c.move_part-2.ensures, c.move_part.ensures)
