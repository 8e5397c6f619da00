-- `report::put_answer` meets its contract.
use Rattle.report.proofs.Laws.{with-room}
use mathlib.Core.Path.{sym, ◌∙◌}
use Rattle.report.specs.Report.{answer_text}
use Rattle.report.proofs.put_answer.Goals as goal

pub returns-in_default : goal.returns-in_default
unfolding answer_text
returns-in_default c = rw c.in_default.is (with-room _ _ _ _ c.put_refusal.ensures)

pub returns-then-are_usable : goal.returns-then-are_usable
unfolding answer_text
returns-then-are_usable c = rw (c.in-Some.is, answer_text, sym c.are_usable.ensures ∙ c.if-are_usable.true) (with-room _ _ _ _ c.put_list.ensures)

pub returns-else-are_usable : goal.returns-else-are_usable
unfolding answer_text
returns-else-are_usable c = rw (c.in-Some.is, answer_text, sym c.are_usable.ensures ∙ c.if-are_usable.false) (with-room _ _ _ _ c.put_refusal-else-are_usable.ensures)
