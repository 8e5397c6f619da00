use Rattle.cuts.specs.Cuts.{record_size}
use mathlib.Core.Path.{◌∙◌}
use Rattle.cuts.proofs.record_size.Goals as goal

pub returns : goal.returns
unfolding record_size
returns c = (c.cue_size.ensures.0 ∙ rw (c.payload_length.ensures.0, c.settings_length.ensures.0, c.identifier_length.ensures.0), c.cue_size.ensures.1)
