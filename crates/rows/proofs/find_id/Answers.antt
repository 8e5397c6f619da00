use Rattle.rows.proofs.Laws.{id-read}
use native.Mathlib.Omega.{arith}
use Rattle.rows.proofs.find_id.Goals as goal

pub returns-then-tab-k : goal.returns-then-tab-k
returns-then-tab-k c = (omega arith, id-read _ _ _ c.if-tab-k.true)

pub returns-then-j-n : goal.returns-then-j-n
returns-then-j-n c = (c.if-j-n.true, c.latest_row-j.ensures.1 c.if-j-n.true)

pub returns-else-j-n : goal.returns-else-j-n
returns-else-j-n c = c.latest_row-j.ensures.2 (omega arith)
