-- `captions::captions_wvtt_settings_room` meets its contract: the answer of the operation, as C sees it.
use Rattle.captions.specs.Flat.{flat_written}
use mathlib.Core.Path.{ap, ◌∙◌}
use Rattle.captions.proofs.captions_wvtt_settings_room.Goals as goal

pub returns : goal.returns
returns c = c.from.ensures ∙ ap flat_written c.given_room.ensures
