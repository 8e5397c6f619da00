use mathlib.Core.Path.{sym, ap, ◌∙◌}
use native.Mathlib.Omega.{arith}
use native.Mathlib.Numerals.{add-one}
use lib.Seq.{take_all}
use Rattle.tx3g_tidy.specs.Escapes.{extras}
use Rattle.tx3g_tidy.proofs.Escapes.{extras-nil, extras-next}
use Rattle.tx3g_tidy.proofs.extras_of.Goals as goal

pub loop-b-init : goal.loop-b-init
loop-b-init c = (omega arith, sym extras-nil)

pub loop-b-preserved : goal.loop-b-preserved
loop-b-preserved c =
    let l = c.loop-b in
    let e = extras-next c.args.text.now l.b-index (omega arith) in
    (omega (arith, c.extra_of-n.ensures.1), rw add-one (omega (arith, e, l.invariant.1, c.extra_of-n.ensures.0)))

pub returns : goal.returns
returns c = (c.loop-b.invariant.1 ∙ ap extras (take_all _ _ (omega arith)), omega arith)

pub overflow_add-n : goal.overflow_add-n
overflow_add-n c = omega (arith, c.extra_of-n.ensures.1)
