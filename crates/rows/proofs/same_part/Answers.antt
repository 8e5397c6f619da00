use Rattle.boxes.specs.Boxes.{part}
use Rattle.rows.proofs.same_part.Goals as goal

pub returns : goal.returns
unfolding part
returns c = c.same_bytes.ensures
