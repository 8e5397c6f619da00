-- `tx3g_contents::judge_karaoke_end` meets its contract.
use Rattle.tx3g_contents.proofs.Laws.{missing, karaoke-past}
use Rattle.tx3g_contents.specs.Contents.{karaoke_end}
use mathlib.Core.Path.{◌∙◌}
use Prim.Native.Nat.{◌<◌}
use native.Mathlib.Omega.{arith}
use Rattle.tx3g_contents.proofs.judge_karaoke_end.Goals as goal

pub returns-then-next-body-lt6 : goal.returns-then-next-body-lt6
returns-then-next-body-lt6 c = let h : c.args.next < karaoke_end c.args.s.now c.args.body = omega (arith, karaoke-past c.args.s.now c.args.body) in
    c.refused.ensures ∙ missing _ _ _ h

pub returns : goal.returns
unfolding karaoke_end
returns c = rw (← c.get16-count.ensures.0) c.judge_end.ensures
