-- `wvtt_entry_write::put_boxes` meets its contract: the label's box behind the configuration's.
use Rattle.wvtt_entry_write.proofs.Laws.{size-most, size-labelled, one_written, two-written}
use Rattle.wvtt_entry_write.specs.Writing.{label_of, entry_items}
use native.Mathlib.Omega.{arith}
use Rattle.wvtt_entry_write.proofs.put_boxes.Goals as goal

pub put_whole-requires : goal.put_whole-requires
put_whole-requires c = let a = c.args in omega (arith, size-most a.configuration.now (label_of a.labelled a.label.now))

pub put_whole-requires-then-labelled : goal.put_whole-requires-then-labelled
put_whole-requires-then-labelled c = let a = c.args in omega (arith, size-labelled a.configuration.now a.labelled a.label.now c.if-labelled.true)

pub returns-then-labelled : goal.returns-then-labelled
unfolding entry_items
returns-then-labelled c = let a = c.args in
    rw c.if-labelled.true (two-written _ _ _ _ _ _ _ c.put_whole.ensures c.put_whole-then-labelled.ensures (omega (arith, size-most a.configuration.now (label_of a.labelled a.label.now))))

pub returns-else-labelled : goal.returns-else-labelled
unfolding entry_items
returns-else-labelled c = rw c.if-labelled.false (one_written _ _ _ _ c.put_whole.ensures)
