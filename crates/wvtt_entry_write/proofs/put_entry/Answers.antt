-- `wvtt_entry_write::put_entry` meets its contract: the boxes behind the fixed bytes.
use Rattle.wvtt_entry_write.proofs.Laws.{size-most, entry-written}
use Rattle.wvtt_entry_write.specs.Writing.{label_of}
use native.Mathlib.Omega.{arith}
use Rattle.wvtt_entry_write.proofs.put_entry.Goals as goal

pub put_head-requires : goal.put_head-requires
put_head-requires c = let a = c.args in omega (arith, size-most a.configuration.now (label_of a.labelled a.label.now))

pub returns : goal.returns
returns c = entry-written _ _ _ _ _ _ _ c.requires.0 c.put_head.ensures c.put_boxes.ensures
