use lib.ListN.{drop}
use Prim.Native.Nat.{◌+◌}
use mathlib.Core.Path.{refl, ap, ◌∙◌}
use Rattle.input.specs.declared.Reading.{Reading}
use Rattle.input.specs.Reading.{fed}
use Rattle.input.proofs.Laws.{fed-turn, fed-end}
use native.Mathlib.Omega.{arith}
use Rattle.input.proofs.feed.Goals as goal

pub loop-b-init : goal.loop-b-init
loop-b-init c = refl

pub loop-b-preserved : goal.loop-b-preserved
loop-b-preserved c =
    let l = c.loop-b in
    let s = c.args.bytes.now in
    ap (λ (r : Reading). fed r (drop (l.b-index + 1) s)) c.take_byte-reached.ensures ∙ fed-turn l.reached s l.b-index (omega arith) ∙ l.invariant

pub returns : goal.returns
returns c = fed-end _ _ c.args.bytes.now c.loop-b.b-index (omega arith) c.loop-b.invariant
