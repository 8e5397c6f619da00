-- Or nothing.
use Rattle.tx3g_payload_write.proofs.Stores.{wrote_as, wrote_none, given_yes, given-no}
use Rattle.tx3g_payload_write.proofs.put_end.Goals as goal

pub returns-then-shown : goal.returns-then-shown
returns-then-shown c = wrote_as _ _ _ _ _ _ _ (given_yes _ _ c.if-shown.true) c.put_closes.ensures

pub returns-else-shown : goal.returns-else-shown
returns-else-shown c = wrote_as _ _ _ _ _ _ _ (given-no _ _ c.if-shown.false) (wrote_none _ _ _)
