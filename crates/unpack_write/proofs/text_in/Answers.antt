-- `unpack_write::text_in` meets its contract, by the definition.
use mathlib.Core.Path.{refl}
use Rattle.boxes.specs.Boxes.{part}
use Rattle.wvtt_cues.specs.Cues.{text_of}
use Rattle.unpack_write.proofs.text_in.Goals as goal

pub returns : goal.returns
unfolding text_of part
returns c = refl
