-- `records::texts_end` meets its contract: a sum that never wraps.
use native.Mathlib.Omega.{arith}
use Rattle.records.proofs.Laws.{in_order}
use Rattle.records.proofs.texts_end.Goals as goal

pub returns : goal.returns
returns c = omega (arith, in_order c.args.records.now c.args.i)
