use Rattle.rows.proofs.Laws.{missing-none, missing-more, missing-all, id-read}
use native.Mathlib.Omega.{arith}
use Rattle.rows.proofs.latest_row.Goals as goal

pub loop-passed-init : goal.loop-passed-init
loop-passed-init c i l k = missing-none c.args.tab.now c.args.n c.args.id i (omega arith) k

pub returns-then-tab-j : goal.returns-then-tab-j
returns-then-tab-j c = (omega arith, (λ _. id-read _ _ _ c.if-tab-j.true), λ h. absurd (omega arith))

pub loop-passed-preserved : goal.loop-passed-preserved
loop-passed-preserved c i l k = missing-more _ _ _ _ (omega arith) c.if-tab-j.false c.loop-passed.invariant i (omega arith) k

pub returns : goal.returns
returns c = (omega arith, (λ h. absurd (omega arith)), λ _. missing-all _ _ _ _ (omega arith) c.loop-passed.invariant)
