-- `times::scale_allowed` meets its contract, by the definition.
use mathlib.Core.Path.{ap, ◌∙◌}
use Rattle.base.specs.Choice.{within}
use Rattle.times.specs.Times.{scale_allowed}
use Rattle.times.proofs.scale_allowed.Goals as goal

pub returns : goal.returns
unfolding scale_allowed
returns c = c.is_within.ensures ∙ ap (within 1 1000000) c.from.ensures
