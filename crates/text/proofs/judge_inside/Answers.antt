use Rattle.viable.proofs.FirstBad.{judged-right}
use Rattle.text.proofs.judge_inside.Goals as goal

pub returns-then-is_lined : goal.returns-then-is_lined
returns-then-is_lined c = judged-right _ _ _ (c.is_lined.ensures c.if-is_lined.true)
