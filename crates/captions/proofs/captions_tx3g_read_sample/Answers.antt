-- `captions::captions_tx3g_read_sample` meets its contract: the answer of the operation, as C sees it.
use Rattle.captions.specs.Flat.{flat_content}
use mathlib.Core.Path.{ap, ◌∙◌}
use Rattle.captions.proofs.captions_tx3g_read_sample.Goals as goal

pub returns : goal.returns
returns c = c.from.ensures ∙ ap flat_content c.read_content.ensures
