-- `captions::captions_tx3g_font_at` meets its contract: the answer of the operation, as C sees it.
use Rattle.captions.specs.Flat.{flat_font}
use mathlib.Core.Path.{ap, ◌∙◌}
use Rattle.captions.proofs.captions_tx3g_font_at.Goals as goal

pub returns : goal.returns
returns c = c.from.ensures ∙ ap flat_font c.font_at.ensures
