-- `wvtt_entry::end_entry` meets its contract: a refused header comes before 4.
use Rattle.wvtt_entry.proofs.end_entry.Goals as goal

pub returns-else-configured : goal.returns-else-configured
returns-else-configured c = simp (← c.stopped_by.ensures, c.in_ok-stopped_by.was, c.if-configured.false, c.refused.ensures)
