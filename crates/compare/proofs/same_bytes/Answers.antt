use mathlib.Core.Path.{refl, sym, ◌∙◌}
use native.Mathlib.Omega.{arith}
use Rattle.compare.proofs.Laws.{same-lengths, same_on, same_end}
use Rattle.compare.proofs.same_bytes.Goals as goal

pub returns-then-a-b : goal.returns-then-a-b
returns-then-a-b c = sym (same-lengths _ _ c.if-a-b.true)

pub loop-i-init : goal.loop-i-init
loop-i-init c = refl

pub loop-i-preserved : goal.loop-i-preserved
loop-i-preserved c = same_on _ _ c.loop-i.i c.if-a-b.false _ _ _ (omega arith) c.loop-i-test.true c.loop-i.invariant

pub returns : goal.returns
returns c = sym (same_end _ _ c.loop-i.i c.if-a-b.false c.loop-i.same c.loop-i-test.false) ∙ c.loop-i.invariant
