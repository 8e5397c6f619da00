-- `captions::captions_tx3g_count_characters` meets its contract: the answer of the operation, as C sees it.
use Rattle.captions.specs.Flat.{flat_count}
use mathlib.Core.Path.{ap, ◌∙◌}
use Rattle.captions.proofs.captions_tx3g_count_characters.Goals as goal

pub returns : goal.returns
returns c = c.from.ensures ∙ ap flat_count c.count_characters.ensures
