-- `wvtt::judge_line` meets its contract: the limit comes first.
use Rattle.boxes.specs.Boxes.{part}
use Rattle.wvtt.specs.Sample.{judge_text}
use borrow.Author.Tests.{le-ltb, lt-ltb}
use Rattle.wvtt.proofs.judge_line.Goals as goal

pub returns-then-next-body-gt255 : goal.returns-then-next-body-gt255
unfolding judge_text
returns-then-next-body-gt255 c = simp (lt-ltb _ _ c.if-next-body-gt255.true, c.refused.ensures)

pub returns : goal.returns
unfolding judge_text part
returns c = simp (le-ltb _ _ c.if-next-body-gt255.false, c.text_at.ensures, c.judge_identifier.ensures)
