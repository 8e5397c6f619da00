-- `captions::captions_drop_zero_durations_room` meets its contract: the answer of the operation, as C sees it.
use Rattle.captions.specs.Flat.{flat_dropped}
use mathlib.Core.Path.{ap, ◌∙◌}
use Rattle.captions.proofs.captions_drop_zero_durations_room.Goals as goal

pub returns : goal.returns
returns c = c.from.ensures ∙ ap flat_dropped c.drop_zero_durations_room.ensures
