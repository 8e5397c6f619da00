-- The tags first, unless they are there.
use native.Mathlib.Omega.{arith}
use Rattle.tx3g_payload_write.proofs.Stores.{wrote-both}
use Rattle.tx3g_payload_write.proofs.put_left.Goals as goal

pub returns : goal.returns
returns c = wrote-both _ _ _ 9 5 _ _ _ _ _ (omega arith) c.put_begin-second.ensures c.put_escaped.ensures
