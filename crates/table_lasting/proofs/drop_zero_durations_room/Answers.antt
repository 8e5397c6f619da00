use mathlib.Core.Path.{sym, ◌∙◌}
use Rattle.base.proofs.Results.{passed_on}
use Rattle.table_lasting.proofs.Answers.{whole-refused}
use Rattle.table_lasting.proofs.drop_zero_durations_room.Goals as goal

pub returns-in_err-judge_whole : goal.returns-in_err-judge_whole
returns-in_err-judge_whole c = passed_on _ _ c.from_residual.ensures ∙ whole-refused _ _ _ (sym c.judge_whole.ensures ∙ c.in_err-judge_whole.was)

pub measure_rows-requires : goal.measure_rows-requires
measure_rows-requires c = sym c.judge_whole.ensures ∙ c.in_ok-judge_whole.was
