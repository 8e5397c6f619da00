-- `captions::captions_tx3g_read_entry` meets its contract: the answer of the operation, as C sees it.
use Rattle.captions.specs.Flat.{flat_tx3g_entry}
use mathlib.Core.Path.{ap, ◌∙◌}
use Rattle.captions.proofs.captions_tx3g_read_entry.Goals as goal

pub returns : goal.returns
returns c = c.from.ensures ∙ ap flat_tx3g_entry c.read_entry.ensures
