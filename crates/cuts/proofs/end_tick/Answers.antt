use Rattle.cuts.specs.Cuts.{end_tick}
use Rattle.times.specs.Times.{tick}
use mathlib.Core.Path.{◌∙◌, ap}
use Rattle.cuts.proofs.end_tick.Goals as goal

pub returns : goal.returns
unfolding end_tick
returns c = c.tick_of.ensures.0 ∙ ap (tick c.args.scale) c.end_ms.ensures.0
