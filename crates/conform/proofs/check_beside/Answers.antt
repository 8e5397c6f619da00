use mathlib.Core.Path.{◌∙◌, sym}
use Rattle.conform.proofs.check_beside.Goals as goal

pub check_samples-requires : goal.check_samples-requires
check_samples-requires c = (c.requires, sym c.judge_track.ensures ∙ c.in_ok-judge_track.was)
