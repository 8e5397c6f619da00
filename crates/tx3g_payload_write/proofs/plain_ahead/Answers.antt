-- Eight, one or none.
use mathlib.Core.Path.{sym, ◌∙◌}
use native.Mathlib.Omega.{arith}
use Rattle.tx3g_payload_write.proofs.Plain.{ahead_none, ahead-one, ahead-eight}
use Rattle.tx3g_payload_write.proofs.plain_ahead.Goals as goal

pub returns-then-utf16 : goal.returns-then-utf16
returns-then-utf16 c = ahead_none _ _ _ _ c.requires.0

pub returns-then-is_plain8 : goal.returns-then-is_plain8
returns-then-is_plain8 c = ahead-eight _ _ _ _ (omega arith) (omega arith) c.if-utf16.false (sym c.is_plain8.ensures ∙ c.if-is_plain8.true)

pub returns-else-left-ge8 : goal.returns-else-left-ge8
returns-else-left-ge8 c = ahead-one _ _ _ _ c.mark_of.result c.requires.0 c.requires.1 c.if-utf16.false c.mark_of.ensures (omega arith)
