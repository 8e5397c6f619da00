use Rattle.cuts.specs.Cuts.{start_tick}
use Rattle.times.specs.Times.{tick}
use mathlib.Core.Path.{◌∙◌, ap}
use Rattle.cuts.proofs.start_tick.Goals as goal

pub returns : goal.returns
unfolding start_tick
returns c = c.tick_of.ensures.0 ∙ ap (tick c.args.scale) c.start_ms.ensures.0
