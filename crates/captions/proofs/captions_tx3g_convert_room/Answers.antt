-- `captions::captions_tx3g_convert_room` meets its contract: the answer of the operation, as C sees it.
use Rattle.captions.specs.Flat.{flat_converted}
use mathlib.Core.Path.{ap, ◌∙◌}
use Rattle.captions.proofs.captions_tx3g_convert_room.Goals as goal

pub returns : goal.returns
returns c = c.from.ensures ∙ ap flat_converted c.convert_room.ensures
