-- `captions::captions_wvtt_judge_profile` meets its contract: the answer of the operation, as C sees it.
use Rattle.captions.specs.Flat.{flat_verdict}
use mathlib.Core.Path.{ap, ◌∙◌}
use Rattle.captions.proofs.captions_wvtt_judge_profile.Goals as goal

pub returns : goal.returns
returns c = c.flat_verdict.ensures ∙ ap flat_verdict c.judge_profile.ensures
