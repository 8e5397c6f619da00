-- `wvtt_entry::judge_entry` meets its contract: the head comes first.
use Rattle.base.proofs.Results.{passed_on}
use Rattle.wvtt_entry.specs.Entry.{judge_entry}
use Rattle.entry_head.proofs.Laws.{head_fixed}
use Rattle.verdict.proofs.Judgement.{then-fine, then-refused}
use mathlib.Core.Path.{sym, ◌∙◌}
use Rattle.wvtt_entry.proofs.judge_entry.Goals as goal

pub returns-in_err-judge_head : goal.returns-in_err-judge_head
unfolding judge_entry
returns-in_err-judge_head c = passed_on _ _ c.from_residual.ensures ∙ sym (then-refused _ _ _ (sym c.judge_head.ensures ∙ c.in_err-judge_head.was))

pub judge_boxes-requires : goal.judge_boxes-requires
judge_boxes-requires c = head_fixed _ _ _ (sym c.judge_head.ensures ∙ c.in_ok-judge_head.was)

pub returns : goal.returns
unfolding judge_entry
returns c = c.judge_boxes.ensures ∙ sym (then-fine _ _ (sym c.judge_head.ensures ∙ c.in_ok-judge_head.was))
