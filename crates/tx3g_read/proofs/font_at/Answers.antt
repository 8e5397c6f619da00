use native.Mathlib.Omega.{arith}
use Rattle.tx3g_read.proofs.Laws.{font-short, font-cut, font-named}
use Rattle.tx3g_read.proofs.font_at.Goals.{then-e-lt3-via-then-e-lt3, then-e-lt3-via-else-e-lt3+then-e-at}
use Rattle.tx3g_read.proofs.font_at.Goals as goal

pub returns-then-e-lt3 : goal.returns-then-e-lt3
returns-then-e-lt3 c = elim c.then-e-lt3.branch [
  | then-e-lt3-via-then-e-lt3 w ↦ font-short _ _ (omega (arith, w.if-e-lt3.true))
  | then-e-lt3-via-else-e-lt3+then-e-at w ↦ font-short _ _ (omega (arith, w.if-e-at.true, w.if-e-lt3.false))
]

pub returns-then-e-end : goal.returns-then-e-end
returns-then-e-end c = font-cut _ _ _ c.get8.ensures.0 c.if-e-end.true

pub returns : goal.returns
returns c = font-named _ _ _ _ c.get8.ensures.0 c.get16.ensures.0 c.if-e-end.false
