-- `wvtt::judge_id` meets its contract: each return is the case of `judge_id` that its tests lead to.
use Rattle.wvtt.specs.Sample.{judge_id}
use borrow.Author.Tests.{le-ltb, lt-ltb, le-leb, lt-leb}
use Rattle.wvtt.proofs.judge_id.Goals as goal

pub returns-then-next-body-lt4 : goal.returns-then-next-body-lt4
unfolding judge_id
returns-then-next-body-lt4 c = simp (lt-ltb _ _ c.if-next-body-lt4.true, c.refused.ensures)

pub returns-then-next-body-gt4 : goal.returns-then-next-body-gt4
unfolding judge_id
returns-then-next-body-gt4 c = simp (le-ltb _ _ c.if-next-body-lt4.false, lt-ltb _ _ c.if-next-body-gt4.true, c.refused-then-next-body-gt4.ensures)

pub returns-then-get32-ge2147483648 : goal.returns-then-get32-ge2147483648
unfolding judge_id
returns-then-get32-ge2147483648 c = simp (le-ltb _ _ c.if-next-body-lt4.false, le-ltb _ _ c.if-next-body-gt4.false, ← c.get32.ensures.0, le-leb _ _ c.if-get32-ge2147483648.true, c.refused-then-get32-ge2147483648.ensures)

pub returns : goal.returns
unfolding judge_id
returns c = simp (le-ltb _ _ c.if-next-body-lt4.false, le-ltb _ _ c.if-next-body-gt4.false, ← c.get32.ensures.0, lt-leb _ _ c.if-get32-ge2147483648.false)
