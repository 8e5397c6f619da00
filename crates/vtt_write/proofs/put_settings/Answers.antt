-- Nothing, or a space and the text.
use mathlib.Core.Path.{◌∙◌}
use native.Mathlib.Omega.{arith}
use lib.ListN.{length-set}
use Rattle.vtt_write.proofs.Laws.{size-some, nothing_written, spaced-written}
use Rattle.vtt_write.proofs.put_settings.Goals as goal

pub returns-then-text-eq0 : goal.returns-then-text-eq0
returns-then-text-eq0 c = let n = nothing_written c.args.out.now c.args.text.now c.args.at c.if-text-eq0.true in (n.0, n.2)

pub bounds-out-at : goal.bounds-out-at
bounds-out-at c = omega (arith, size-some _ c.if-text-eq0.false)

pub put_text-requires : goal.put_text-requires
put_text-requires c = simp length-set (omega (arith, size-some _ c.if-text-eq0.false))

pub shape_of-out : goal.shape_of-out
shape_of-out c = c.put_text.auto.pool ∙ length-set c.args.out.now c.args.at 0x20

pub returns : goal.returns
returns c = spaced-written _ _ _ _ _ c.if-text-eq0.false c.put_text.ensures.0 c.put_text.ensures.1 (omega arith)
