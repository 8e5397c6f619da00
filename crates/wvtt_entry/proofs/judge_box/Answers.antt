-- `wvtt_entry::judge_box` meets its contract: 3 comes before the body's faults.
use Rattle.wvtt_entry.specs.Entry.{in_entry}
use Rattle.wvtt_entry.proofs.judge_box.Goals as goal

pub returns-then-repeats : goal.returns-then-repeats
unfolding in_entry
returns-then-repeats c = λ before m n. simp (← c.repeats.ensures before m n, c.if-repeats.true, c.refused.ensures)

pub returns : goal.returns
unfolding in_entry
returns c = λ before m n. simp (← c.repeats.ensures before m n, c.if-repeats.false, c.judge_content.ensures)
