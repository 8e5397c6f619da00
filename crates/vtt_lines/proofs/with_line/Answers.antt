-- An LF joins a line to a text, if there is one.
use Rattle.vtt_lines.proofs.Scanning.{joint-none, joint-some}
use Rattle.vtt_lines.proofs.with_line.Goals as goal

pub returns-then-n-eq0 : goal.returns-then-n-eq0
returns-then-n-eq0 c = joint-none c.args.n c.args.bytes c.if-n-eq0.true

pub returns-else-n-eq0 : goal.returns-else-n-eq0
returns-else-n-eq0 c = joint-some c.args.n c.args.bytes c.if-n-eq0.false
