-- `wvtt_entry_write::put_head` meets its contract: four runs, one behind the other.
use Rattle.wvtt_entry_write.proofs.Laws.{head-written}
use Rattle.wvtt_entry_write.specs.Writing.{entry_head}
use Rattle.wvtt_entry_write.proofs.put_head.Goals as goal

pub returns : goal.returns
unfolding entry_head
returns c = head-written _ _ _ _ _ _ _ _ c.put_header.ensures c.put32.ensures c.put16.ensures c.put16-2.ensures
