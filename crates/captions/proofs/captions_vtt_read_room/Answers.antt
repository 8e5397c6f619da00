-- `captions::captions_vtt_read_room` meets its contract: the answer of the operation, as C sees it.
use Rattle.captions.specs.Flat.{flat_file}
use mathlib.Core.Path.{ap, ◌∙◌}
use Rattle.captions.proofs.captions_vtt_read_room.Goals as goal

pub returns : goal.returns
returns c = c.from.ensures ∙ ap flat_file c.read_room.ensures
