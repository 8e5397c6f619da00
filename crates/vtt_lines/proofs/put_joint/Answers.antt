use Rattle.vtt_lines.proofs.Gathering.{joint-none, joint-full, joint-put}
use Rattle.vtt_lines.proofs.put_joint.Goals as goal

pub returns-then-n-eq0 : goal.returns-then-n-eq0
returns-then-n-eq0 c = joint-none _ _ c.if-n-eq0.true

pub returns-then-buf-end : goal.returns-then-buf-end
returns-then-buf-end c = joint-full _ _ c.if-n-eq0.false c.if-buf-end.true

pub returns : goal.returns
returns c = joint-put _ _ c.if-n-eq0.false c.if-buf-end.false
