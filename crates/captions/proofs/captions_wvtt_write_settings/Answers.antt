-- `captions::captions_wvtt_write_settings` meets its contract: the answer of the operation, as C sees it.
use Rattle.captions.specs.Flat.{flat_written}
use mathlib.Core.Path.{ap, ◌∙◌}
use Rattle.captions.proofs.captions_wvtt_write_settings.Goals as goal

pub returns : goal.returns
returns c = record { value = c.from.ensures ∙ ap flat_written c.write_given-w.ensures.0; text_after = c.write_given-w.ensures.1 }
