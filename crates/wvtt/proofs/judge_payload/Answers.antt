-- `wvtt::judge_payload` meets its contract: the limit comes first.
use Rattle.boxes.specs.Boxes.{part}
use Rattle.wvtt.specs.Sample.{judge_text}
use borrow.Author.Tests.{le-ltb, lt-ltb}
use Rattle.wvtt.proofs.judge_payload.Goals as goal

pub returns-then-next-body-gt4095 : goal.returns-then-next-body-gt4095
unfolding judge_text
returns-then-next-body-gt4095 c = simp (lt-ltb _ _ c.if-next-body-gt4095.true, c.refused.ensures)

pub returns : goal.returns
unfolding judge_text part
returns c = simp (le-ltb _ _ c.if-next-body-gt4095.false, c.text_at.ensures, c.judge_payload.ensures)
