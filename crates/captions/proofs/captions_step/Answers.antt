-- `captions::captions_step` meets its contract: the answer of the operation, as C sees it.
use Rattle.captions.specs.Flat.{flat_step}
use mathlib.Core.Path.{ap, ◌∙◌}
use Rattle.captions.proofs.captions_step.Goals as goal

pub returns : goal.returns
returns c = c.from.ensures ∙ ap flat_step c.step_at.ensures
