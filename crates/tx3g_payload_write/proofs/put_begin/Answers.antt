-- Or nothing.
use Rattle.tx3g_payload_write.proofs.Stores.{wrote_as, wrote_none, begin-yes, begin-no}
use Rattle.tx3g_payload_write.proofs.put_begin.Goals as goal

pub returns-then-shown : goal.returns-then-shown
returns-then-shown c = wrote_as _ _ _ _ _ _ _ (begin-yes _ _ c.if-shown.true) (wrote_none _ _ _)

pub returns-else-shown : goal.returns-else-shown
returns-else-shown c = wrote_as _ _ _ _ _ _ _ (begin-no _ _ c.if-shown.false) c.put_opens.ensures
