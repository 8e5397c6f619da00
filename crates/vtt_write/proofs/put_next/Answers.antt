-- The first, or one behind a blank line.
use native.Mathlib.Omega.{arith}
use lib.ListN.{length-set}
use Rattle.vtt_write.proofs.Laws.{first-written, next-written, gap-later}
use Rattle.vtt_write.proofs.put_next.Goals as goal

pub returns-then-i-eq0 : goal.returns-then-i-eq0
returns-then-i-eq0 c = first-written _ _ _ _ _ _ _ c.if-i-eq0.true c.put_pooled.ensures.0 c.put_pooled.ensures.1

pub bounds-out-at : goal.bounds-out-at
bounds-out-at c = omega (arith, gap-later _ c.if-i-eq0.false)

pub put_pooled-requires-else-i-eq0 : goal.put_pooled-requires-else-i-eq0
put_pooled-requires-else-i-eq0 c = (c.requires.0, c.requires.1, simp length-set (omega (arith, c.requires.2, gap-later _ c.if-i-eq0.false)))

pub returns-else-i-eq0 : goal.returns-else-i-eq0
returns-else-i-eq0 c = next-written c.args.out.now _ _ c.args.at _ _ _ c.if-i-eq0.false c.put_pooled-else-i-eq0.ensures.0 (omega (arith, c.requires.2, gap-later _ c.if-i-eq0.false)) c.put_pooled-else-i-eq0.ensures.1
