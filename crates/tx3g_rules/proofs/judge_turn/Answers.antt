-- `tx3g_rules::judge_turn` meets its contract.
use Rattle.tx3g_rules.specs.Rules.{turn_fault}
use borrow.Author.Tests.{le-leb, lt-leb}
use Rattle.tx3g_rules.proofs.judge_turn.Goals.{else-previous-get32-via-then-previous-get32+else-is_range, else-previous-get32-via-else-previous-get32}
use Rattle.tx3g_rules.proofs.judge_turn.Goals as goal

pub returns-then-is_range : goal.returns-then-is_range
unfolding turn_fault
returns-then-is_range c = rw (← c.get32.ensures.0, le-leb _ _ c.if-previous-get32.true, ← c.is_range.ensures, c.if-is_range.true)

pub returns-else-previous-get32 : goal.returns-else-previous-get32
unfolding turn_fault
returns-else-previous-get32 c = elim c.else-previous-get32.branch [
  | else-previous-get32-via-then-previous-get32+else-is_range w ↦ rw (← c.get32.ensures.0, le-leb _ _ w.if-previous-get32.true, ← w.is_range.ensures, w.if-is_range.false) c.refused.ensures
  | else-previous-get32-via-else-previous-get32 w ↦ rw (← c.get32.ensures.0, lt-leb _ _ w.if-previous-get32.false) c.refused.ensures
]
