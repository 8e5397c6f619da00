-- `records::settings_length` meets its contract, by the definition.
use Rattle.records.specs.Records.{settings_length}
use Rattle.records.proofs.settings_length.Goals as goal

pub returns : goal.returns
unfolding settings_length
returns c = c.get16.ensures
