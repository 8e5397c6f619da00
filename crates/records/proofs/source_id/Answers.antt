-- `records::source_id` meets its contract, by the definition.
use Rattle.records.specs.Records.{source_id}
use Rattle.records.proofs.source_id.Goals as goal

pub returns : goal.returns
unfolding source_id
returns c = c.get32.ensures
