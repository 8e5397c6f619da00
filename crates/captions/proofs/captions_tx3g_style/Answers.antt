-- `captions::captions_tx3g_style` meets its contract: the answer of the operation, as C sees it.
use Rattle.captions.specs.Flat.{flat_styled}
use mathlib.Core.Path.{ap, ◌∙◌}
use Rattle.captions.proofs.captions_tx3g_style.Goals as goal

pub returns : goal.returns
returns c = c.from.ensures ∙ ap flat_styled c.style_at.ensures
