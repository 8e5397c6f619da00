-- `wvtt_write::any_size` meets its contract: by the two cases of its test.
use Rattle.wvtt_write.proofs.Laws.{any-size}
use mathlib.Core.Path.{sym}
use native.Mathlib.Omega.{arith}
use Rattle.wvtt_write.proofs.any_size.Goals as goal

pub returns-else-n-eq0 : goal.returns-else-n-eq0
returns-else-n-eq0 c = (sym (any-size _ c.if-n-eq0.false), omega arith)
