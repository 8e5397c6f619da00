use mathlib.Core.Path.{◌≡◌}
use native.Mathlib.Omega.{arith}
use lib.ListN.{length}
use Rattle.characters.proofs.Firsts.{firsts-turn, firsts-begins}
use Rattle.characters.proofs.count_from.Goals as goal

pub loop-i-init : goal.loop-i-init
loop-i-init c = (omega arith, firsts-begins _ _)

pub loop-i-preserved : goal.loop-i-preserved
loop-i-preserved c = (omega arith, firsts-turn _ _ _ _ _ c.loop-i.auto.i c.loop-i.invariant.1 c.first_byte-n.ensures.0)

pub returns : goal.returns
returns c = let e : c.loop-i.i ≡ length c.args.s.now = omega arith in rw (← e) c.loop-i.invariant.1
