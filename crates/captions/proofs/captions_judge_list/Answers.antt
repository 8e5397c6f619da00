-- `captions::captions_judge_list` meets its contract: the answer of the operation, as C sees it.
use Rattle.captions.specs.Flat.{flat_verdict}
use mathlib.Core.Path.{ap, ◌∙◌}
use Rattle.captions.proofs.captions_judge_list.Goals as goal

pub returns : goal.returns
returns c = c.flat_verdict.ensures ∙ ap flat_verdict c.judge_list.ensures
