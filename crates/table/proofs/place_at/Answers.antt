-- `table::place_at` meets its contract: by the two cases of a verdict.
use mathlib.Core.Path.{ap}
use Rattle.verdict.specs.Verdict.{Refused}
use Rattle.table.proofs.place_at.Goals as goal

pub returns : goal.returns
returns c = rw c.in-Err.is (ap Refused c.move_to.ensures)
