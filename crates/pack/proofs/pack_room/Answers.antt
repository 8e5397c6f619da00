use Rattle.base.proofs.Results.{passed_on}
use Rattle.pack.proofs.Laws.{fine-room, faulty-room}
use Rattle.cues.proofs.Sound.{fine-sound}
use mathlib.Core.Path.{◌∙◌, sym}
use Rattle.pack.proofs.pack_room.Goals as goal

pub returns-in_err-judge_list : goal.returns-in_err-judge_list
returns-in_err-judge_list c = passed_on _ _ c.from_residual.ensures ∙ sym (faulty-room _ _ _ _ _ (sym c.judge_list.ensures ∙ c.in_err-judge_list.was))

pub measure_sound-requires : goal.measure_sound-requires
measure_sound-requires c = fine-sound _ _ _ _ (sym c.judge_list.ensures ∙ c.in_ok-judge_list.was)

pub returns : goal.returns
returns c = c.measure_sound.ensures ∙ sym (fine-room _ _ _ _ (sym c.judge_list.ensures ∙ c.in_ok-judge_list.was))
