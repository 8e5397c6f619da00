-- The joint, if there is a text.
use lib.ListN.{get_or}
use borrow.Author.Tests.{eqb-true}
use Rattle.vtt_lines.proofs.Scanning.{joined-none, joined-some}
use Rattle.vtt_lines.proofs.goes_on.Goals as goal

pub returns-then-n-eq0 : goal.returns-then-n-eq0
returns-then-n-eq0 c = λ e. (c.if-plain.true, joined-none _ _ _ _ c.if-n-eq0.true)

pub returns-then-at-end : goal.returns-then-at-end
returns-then-at-end c = λ e. (c.if-plain.true, joined-some c.args.s.now c.args.n c.args.end c.args.at (c.if-at-end.true, eqb-true (get_or c.args.s.now c.args.end 0) 10 e))
