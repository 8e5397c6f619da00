-- `wvtt_write::put_empty` meets its contract: the header is the whole box.
use Rattle.wvtt_write.specs.Written.{sample_bytes}
use Rattle.boxes.specs.Written.{box_bytes}
use Rattle.fields.specs.BigEndian.{bytes}
use mathlib.Core.Path.{refl}
use Rattle.wvtt_write.proofs.put_empty.Goals as goal

pub returns : goal.returns
unfolding sample_bytes box_bytes bytes
returns c = (refl, c.put_header.ensures)
