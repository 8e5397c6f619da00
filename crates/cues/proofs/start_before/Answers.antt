-- `cues::start_before` meets its contract: the first record has none before it.
use Rattle.cues.specs.Judgement.{start_before}
use Rattle.cues.proofs.Laws.{before_at}
use Rattle.cues.proofs.start_before.Goals as goal

pub returns-then-i-eq0 : goal.returns-then-i-eq0
unfolding start_before
returns-then-i-eq0 c = rw c.if-i-eq0.true

pub returns-else-i-eq0 : goal.returns-else-i-eq0
returns-else-i-eq0 c = before_at _ _ _ c.if-i-eq0.false c.start_ms.ensures.0
