-- `captions::captions_wvtt_check` meets its contract: the answer of the operation, as C sees it.
use Rattle.captions.specs.Flat.{flat_checked}
use mathlib.Core.Path.{ap, ◌∙◌}
use Rattle.captions.proofs.captions_wvtt_check.Goals as goal

pub returns : goal.returns
returns c = c.from.ensures ∙ ap flat_checked c.check_track.ensures
