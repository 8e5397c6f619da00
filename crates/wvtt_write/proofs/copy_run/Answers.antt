use Prim.Native.Nat.{ℕ, ◌+◌, ◌-◌, ◌≤◌}
use mathlib.Core.Path.{◌≡◌, ◌∙◌}
use native.Mathlib.Omega.{arith}
use Rattle.base.specs.Over.{wrote}
use Rattle.boxes.specs.Boxes.{part}
use Rattle.wvtt_write.proofs.Laws.{copy-none, copy-turn, copy-last}
use Rattle.wvtt_write.proofs.copy_run.Goals as goal
use Rattle.wvtt_write.proofs.copy_run.Goals.{else-loop-i-test, then-loop-i-test+else-last-i-gt16}

pub loop-i-init : goal.loop-i-init
loop-i-init c = (omega arith, copy-none c.args.out.now c.args.src.now c.args.at c.args.from)

pub loop-i-preserved : goal.loop-i-preserved
loop-i-preserved c =
    let a = c.args in
    let l = c.loop-i in
    (omega arith, copy-turn a.out.now l.out _ a.src.now a.at a.from l.i 16 l.invariant.1 c.copy16.ensures (omega arith) (omega arith))

pub returns : goal.returns
returns c =
    let a = c.args in
    let l = c.loop-i in
    let last = a.n - 16 in
    let copied : (j : ℕ) × (last ≤ j) × (j ≤ a.n) × (c.loop-i-test.out ≡ wrote a.out.now a.at (part a.src.now a.from (a.from + j))) = elim c.loop-i-test.branch [
      | else-loop-i-test w ↦ (l.i, omega (arith, w.loop-i-test.false), omega arith, w.out-is ∙ l.invariant.1)
      | then-loop-i-test+else-last-i-gt16 w ↦
          let e = copy-turn a.out.now l.out _ a.src.now a.at a.from l.i 16 l.invariant.1 w.copy16.ensures (omega arith) (omega arith) in
          (l.i + 16, omega arith, omega arith, w.out-is ∙ e)
    ] in
    rw (c.copy16-2.ensures, copied.3) (copy-last a.out.now a.src.now a.at a.from copied.0 a.n last 16 (omega arith) (omega arith) copied.1 copied.2 (omega arith))
