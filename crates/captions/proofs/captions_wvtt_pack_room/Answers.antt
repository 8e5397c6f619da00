-- `captions::captions_wvtt_pack_room` meets its contract: the answer of the operation, as C sees it.
use Rattle.captions.specs.Flat.{flat_packed}
use mathlib.Core.Path.{ap, ◌∙◌}
use Rattle.captions.proofs.captions_wvtt_pack_room.Goals as goal

pub returns : goal.returns
returns c = c.from.ensures ∙ ap flat_packed c.pack_room.ensures
