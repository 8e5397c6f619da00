use mathlib.Core.Path.{◌≡◌, refl}
use native.Mathlib.Omega.{arith}
use native.Mathlib.Numerals.{add-one}
use Rattle.base.specs.Iter.{iter}
use Rattle.ascii.specs.Ascii.{all}
use Rattle.tx3g_payload_write.proofs.Plain.{plain-next}
use Rattle.tx3g_payload_write.proofs.is_plain8.Goals as goal

pub loop-k-init : goal.loop-k-init
unfolding all iter
loop-k-init c = refl

pub loop-k-preserved : goal.loop-k-preserved
loop-k-preserved c = let l = c.loop-k in rw add-one (plain-next _ _ _ l.x c.mark_of-x.result l.invariant c.mark_of-x.ensures)

pub returns : goal.returns
returns c = let l = c.loop-k in let e : l.k ≡ 8 = omega arith in rw (← e) l.invariant
