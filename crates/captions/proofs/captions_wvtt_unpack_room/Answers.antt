-- `captions::captions_wvtt_unpack_room` meets its contract: the answer of the operation, as C sees it.
use Rattle.captions.specs.Flat.{flat_unpacked}
use mathlib.Core.Path.{ap, ◌∙◌}
use Rattle.captions.proofs.captions_wvtt_unpack_room.Goals as goal

pub returns : goal.returns
returns c = c.from.ensures ∙ ap flat_unpacked c.unpack_room.ensures
