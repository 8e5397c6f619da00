-- Nothing, or the text and its line end.
use native.Mathlib.Omega.{arith}
use Rattle.vtt_write.proofs.Laws.{size-some, nothing_written, line-written}
use Rattle.vtt_write.proofs.put_line.Goals as goal

pub returns-then-text-eq0 : goal.returns-then-text-eq0
returns-then-text-eq0 c = let n = nothing_written c.args.out.now c.args.text.now c.args.at c.if-text-eq0.true in (n.0, n.1)

pub put_text-last-requires : goal.put_text-last-requires
put_text-last-requires c = omega (arith, size-some _ c.if-text-eq0.false)

pub bounds-out-last : goal.bounds-out-last
bounds-out-last c = omega (arith, size-some _ c.if-text-eq0.false, c.put_text-last.ensures.0, c.put_text-last.auto.pool)

pub returns : goal.returns
returns c = line-written _ _ _ _ _ c.if-text-eq0.false c.put_text-last.ensures.0 c.put_text-last.ensures.1 (omega arith)
