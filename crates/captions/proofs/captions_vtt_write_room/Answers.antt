-- `captions::captions_vtt_write_room` meets its contract: the answer of the operation, as C sees it.
use mathlib.Core.Path.{ap, ◌∙◌}
use Rattle.captions.specs.Flat.{flat_file_written}
use Rattle.captions.proofs.captions_vtt_write_room.Goals as goal

pub returns : goal.returns
returns c = c.from.ensures ∙ ap flat_file_written c.write_room.ensures
