-- `captions::captions_tx3g_next_modifier` meets its contract: the answer of the operation, as C sees it.
use Rattle.captions.specs.Flat.{flat_modified}
use mathlib.Core.Path.{ap, ◌∙◌}
use Rattle.captions.proofs.captions_tx3g_next_modifier.Goals as goal

pub returns : goal.returns
returns c = c.from.ensures ∙ ap flat_modified c.next_modifier.ensures
