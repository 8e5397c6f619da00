-- `records::reserved_bytes` meets its contract, by the definition.
use Rattle.records.specs.Records.{reserved}
use Rattle.records.proofs.reserved_bytes.Goals as goal

pub returns : goal.returns
unfolding reserved
returns c = c.get16.ensures
