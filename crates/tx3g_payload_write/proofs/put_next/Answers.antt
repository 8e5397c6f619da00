-- Gone, or not.
use Rattle.tx3g_payload_write.proofs.Stores.{put-gone, put-stays, code-most}
use native.Mathlib.Omega.{arith}
use Rattle.tx3g_payload_write.proofs.put_next.Goals as goal

pub put_left-requires : goal.put_left-requires
put_left-requires c = (omega arith, code-most _ _ c.in-Some.is c.requires.1)

pub returns-in-None : goal.returns-in-None
returns-in-None c = put-gone _ _ _ _ _ c.in-None.is

pub returns-in-Some : goal.returns-in-Some
returns-in-Some c = put-stays _ _ _ _ _ _ _ _ c.in-Some.is c.put_left.ensures
