use native.Mathlib.Omega.{arith}
use Rattle.tx3g_sample.proofs.Laws.{count_past}
use Rattle.tx3g_read.proofs.Laws.{text-marked, text-plain}
use Rattle.tx3g_read.proofs.find_text.Goals as goal

pub text_end-end-requires : goal.text_end-end-requires
text_end-end-requires c = omega (arith, count_past c.args.s.now, c.requires)

pub returns-then-utf16 : goal.returns-then-utf16
returns-then-utf16 c = rw c.if-utf16.true (text-marked _ _ _ c.text_end-end.ensures.0 c.has_mark-utf16.ensures c.if-utf16.true)

pub returns-else-utf16 : goal.returns-else-utf16
returns-else-utf16 c = rw c.if-utf16.false (text-plain _ _ _ c.text_end-end.ensures.0 c.has_mark-utf16.ensures c.if-utf16.false)
