-- `records::text_offset` meets its contract, by the definition.
use Rattle.records.specs.Records.{text_offset}
use Rattle.records.proofs.text_offset.Goals as goal

pub returns : goal.returns
unfolding text_offset
returns c = c.get32.ensures
