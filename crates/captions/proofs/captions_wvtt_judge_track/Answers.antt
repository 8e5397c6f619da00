-- `captions::captions_wvtt_judge_track` meets its contract: the answer of the operation, as C sees it.
use Rattle.captions.specs.Flat.{flat_verdict}
use mathlib.Core.Path.{ap, ◌∙◌}
use Rattle.captions.proofs.captions_wvtt_judge_track.Goals as goal

pub returns : goal.returns
returns c = c.flat_verdict.ensures ∙ ap flat_verdict c.judge_track.ensures
