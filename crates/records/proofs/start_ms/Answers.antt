-- `records::start_ms` meets its contract, by the definition.
use Rattle.records.specs.Records.{start_ms}
use Rattle.records.proofs.start_ms.Goals as goal

pub returns : goal.returns
unfolding start_ms
returns c = c.get32.ensures
