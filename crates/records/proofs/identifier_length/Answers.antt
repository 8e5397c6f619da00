-- `records::identifier_length` meets its contract, by the definition.
use Rattle.records.specs.Records.{identifier_length}
use Rattle.records.proofs.identifier_length.Goals as goal

pub returns : goal.returns
unfolding identifier_length
returns c = c.get16.ensures
