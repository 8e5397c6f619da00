-- Nothing, or one byte more.
use native.Mathlib.Omega.{arith}
use Rattle.vtt_write.proofs.Laws.{size-some}
use Rattle.vtt_write.proofs.line_size.Goals as goal

pub returns-else-n-eq0 : goal.returns-else-n-eq0
returns-else-n-eq0 c = let e = size-some _ c.if-n-eq0.false in (omega arith, omega arith)
