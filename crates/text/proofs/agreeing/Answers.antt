use mathlib.Core.Path.{◌≡◌, ◌∙◌}
use native.Mathlib.Nat.{zero-add}
use native.Mathlib.Omega.{arith}
use lib.ListN.{length}
use Rattle.text.proofs.Ends.{agree-turn, agree-stop, agree-short, agree-end}
use Rattle.text.proofs.agreeing.Goals as goal
use Rattle.text.proofs.agreeing.Goals.{then-i-s-via-then-i-s, then-i-s-via-else-i-s+then-s-i}

pub loop-i-init : goal.loop-i-init
loop-i-init c = (omega arith, zero-add _)

pub returns-then-i-s : goal.returns-then-i-s
returns-then-i-s c = (
  elim c.then-i-s.branch [
    | then-i-s-via-then-i-s w ↦ agree-short _ _ _ _ c.loop-i.invariant.1 c.loop-i-test.true w.if-i-s.true
    | then-i-s-via-else-i-s+then-s-i w ↦ agree-stop _ _ _ _ c.loop-i.invariant.1 c.loop-i-test.true w.if-i-s.false w.if-s-i.true
  ],
  omega arith,
)

pub loop-i-preserved : goal.loop-i-preserved
loop-i-preserved c = (omega arith, agree-turn _ _ _ _ c.loop-i.invariant.1 c.loop-i-test.true c.if-i-s.false c.if-s-i.false)

pub returns : goal.returns
returns c =
    let e : length c.args.p.now ≡ c.loop-i.i = omega arith in
    (e ∙ agree-end _ _ _ _ c.loop-i.invariant.1 (omega arith), omega arith)
