-- Several at once, or one.
use native.Mathlib.Omega.{arith}
use Rattle.tx3g_payload_write.proofs.Characters.{spelled_by}
use Rattle.tx3g_payload_write.proofs.Plain.{ahead-bytes, ahead-by, stepped_by}
use Rattle.tx3g_payload_write.proofs.put_some.Goals as goal

pub put_plain-requires : goal.put_plain-requires
put_plain-requires c = let p = c.requires in let u = ahead-bytes _ _ _ _ _ c.plain_ahead-n.ensures c.if-n-eq0.false in (omega arith, ahead-by _ _ _ _ _ _ u c.plain_ahead-n.ensures, spelled_by _ _ _ u p.2, p.3, p.4)

pub returns-else-n-eq0 : goal.returns-else-n-eq0
returns-else-n-eq0 c = let u = ahead-bytes _ _ _ _ _ c.plain_ahead-n.ensures c.if-n-eq0.false in stepped_by _ _ _ _ _ _ _ _ u c.put_plain.ensures
