-- `records::end_ms` meets its contract, by the definition.
use Rattle.records.specs.Records.{end_ms}
use Rattle.records.proofs.end_ms.Goals as goal

pub returns : goal.returns
unfolding end_ms
returns c = c.get32.ensures
