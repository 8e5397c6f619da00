-- The bytes, or none.
use native.Mathlib.Omega.{arith}
use Rattle.tx3g_payload_write.proofs.Stores.{wrote_as, wrote_none, given_yes, given-no}
use Rattle.tx3g_payload_write.proofs.put_tag.Goals as goal

pub returns-then-wanted : goal.returns-then-wanted
returns-then-wanted g c = let e = c.put_bytes.ensures in wrote_as _ _ _ _ _ _ _ (given_yes c.args.wanted c.args.tag.now c.if-wanted.true) (e.0, omega (arith, e.0), e.1)

pub returns-else-wanted : goal.returns-else-wanted
returns-else-wanted g c = wrote_as _ _ _ _ _ _ _ (given-no c.args.wanted c.args.tag.now c.if-wanted.false) (wrote_none _ _ _)
