-- `wvtt_entry_write::entry_room` meets its contract: 9 comes before the texts.
use mathlib.Core.Path.{sym, ◌∙◌}
use Rattle.base.proofs.Results.{passed_on}
use Rattle.wvtt_entry_write.proofs.Answers.{room-large, room-fine, room-bad}
use Rattle.wvtt_entry_write.proofs.entry_room.Goals as goal

pub returns-in_err-size : goal.returns-in_err-size
returns-in_err-size c = passed_on _ _ c.from_residual.ensures ∙ sym c.in_err-size.was ∙ room-large _ _ _ _ c.entry_size.ensures c.in_err-size.was

pub returns-in_err-judge_texts : goal.returns-in_err-judge_texts
returns-in_err-judge_texts c = passed_on _ _ c.from_residual-in_err-judge_texts.ensures ∙ room-bad _ _ _ _ _ _ c.entry_size.ensures c.in_ok-size.was c.judge_texts.ensures c.in_err-judge_texts.was

pub returns : goal.returns
returns c = room-fine _ _ _ _ _ c.entry_size.ensures c.in_ok-size.was c.judge_texts.ensures c.in_ok-judge_texts.was
