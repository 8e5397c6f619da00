-- `records::payload_length` meets its contract, by the definition.
use Rattle.records.specs.Records.{payload_length}
use Rattle.records.proofs.payload_length.Goals as goal

pub returns : goal.returns
unfolding payload_length
returns c = c.get16.ensures
