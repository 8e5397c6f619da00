-- `tx3g_entry::judge_fixed` meets its contract.
use Rattle.base.proofs.Results.{passed_on}
use Rattle.entry_head.proofs.Laws.{head_fixed}
use Rattle.tx3g_entry.specs.Entry.{judge_fixed}
use mathlib.Core.Path.{sym, ◌∙◌}
use Rattle.tx3g_entry.proofs.judge_fixed.Goals as goal

pub returns-in_err-judge_head : goal.returns-in_err-judge_head
unfolding judge_fixed
returns-in_err-judge_head c = passed_on _ _ c.from_residual.ensures ∙ sym (simp (← c.judge_head.ensures, c.in_err-judge_head.was))

pub has_justification-requires : goal.has_justification-requires
has_justification-requires c = head_fixed _ _ _ (sym c.judge_head.ensures ∙ c.in_ok-judge_head.was)

pub has_defaults-requires : goal.has_defaults-requires
has_defaults-requires c = head_fixed _ _ _ (sym c.judge_head.ensures ∙ c.in_ok-judge_head.was)

pub returns-then-not-has_justification : goal.returns-then-not-has_justification
unfolding judge_fixed
returns-then-not-has_justification c = simp (← c.judge_head.ensures, c.in_ok-judge_head.was, ← c.has_justification.ensures, c.if-not-has_justification.true, c.refused.ensures)

pub returns-then-has_defaults : goal.returns-then-has_defaults
unfolding judge_fixed
returns-then-has_defaults c = simp (← c.judge_head.ensures, c.in_ok-judge_head.was, ← c.has_justification.ensures, c.if-not-has_justification.false, ← c.has_defaults.ensures, c.if-has_defaults.true)

pub returns-else-has_defaults : goal.returns-else-has_defaults
unfolding judge_fixed
returns-else-has_defaults c = simp (← c.judge_head.ensures, c.in_ok-judge_head.was, ← c.has_justification.ensures, c.if-not-has_justification.false, ← c.has_defaults.ensures, c.if-has_defaults.false, c.refused-else-has_defaults.ensures)
