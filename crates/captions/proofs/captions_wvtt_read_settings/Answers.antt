-- `captions::captions_wvtt_read_settings` meets its contract: the answer of the operation, as C sees it.
use Rattle.settings_flat.specs.Flat.{flat_read}
use mathlib.Core.Path.{ap, ◌∙◌}
use Rattle.captions.proofs.captions_wvtt_read_settings.Goals as goal

pub returns : goal.returns
returns c = c.flat_read.ensures ∙ ap flat_read c.read_settings.ensures
