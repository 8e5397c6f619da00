use Rattle.records.proofs.Laws.{in-records}
use Rattle.times.specs.Times.{tick}
use mathlib.Core.Path.{◌∙◌, ap}
use Rattle.conform.proofs.start_tick.Goals as goal

pub start_ms-requires : goal.start_ms-requires
start_ms-requires c = in-records _ _ c.requires

pub returns : goal.returns
returns c = c.tick_of.ensures.0 ∙ ap (tick _) c.start_ms.ensures.0
