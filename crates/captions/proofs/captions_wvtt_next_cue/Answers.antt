-- `captions::captions_wvtt_next_cue` meets its contract: the answer of the operation, as C sees it.
use Rattle.captions.specs.Flat.{flat_held}
use mathlib.Core.Path.{ap, ◌∙◌}
use Rattle.captions.proofs.captions_wvtt_next_cue.Goals as goal

pub returns : goal.returns
returns c = c.from.ensures ∙ ap flat_held c.next_cue.ensures
