-- `captions::flat_text` meets its contract: the answer of the operation, as C sees it.
use mathlib.Core.Path.{ap, ◌∙◌}
use Rattle.captions.specs.Flat.{flat_verdict}
use Rattle.captions.proofs.flat_text.Goals as goal

pub returns : goal.returns
returns c = c.flat_verdict.ensures ∙ ap flat_verdict c.text_at.ensures
