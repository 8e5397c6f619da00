-- `tx3g_contents::judge_styles_end` meets its contract.
use Rattle.tx3g_contents.proofs.Laws.{missing, styles-past}
use Rattle.tx3g_contents.specs.Contents.{styles_end}
use mathlib.Core.Path.{◌∙◌}
use Prim.Native.Nat.{◌<◌}
use native.Mathlib.Omega.{arith}
use Rattle.tx3g_contents.proofs.judge_styles_end.Goals as goal

pub returns-then-next-body-lt2 : goal.returns-then-next-body-lt2
returns-then-next-body-lt2 c = let h : c.args.next < styles_end c.args.s.now c.args.body = omega (arith, styles-past c.args.s.now c.args.body) in
    c.refused.ensures ∙ missing _ _ _ h

pub returns : goal.returns
unfolding styles_end
returns c = rw (← c.get16-count.ensures.0) c.judge_end.ensures
