use Rattle.records.proofs.Laws.{in-records}
use Rattle.times.specs.Times.{tick}
use mathlib.Core.Path.{◌∙◌, ap}
use Rattle.conform.proofs.end_tick.Goals as goal

pub end_ms-requires : goal.end_ms-requires
end_ms-requires c = in-records _ _ c.requires

pub returns : goal.returns
returns c = c.tick_of.ensures.0 ∙ ap (tick _) c.end_ms.ensures.0
