-- `tx3g_entry::has_justification` meets its contract.
use Rattle.tx3g_entry.specs.Entry.{justified_entry}
use Rattle.tx3g_entry.proofs.has_justification.Goals as goal

pub returns-then-is_justified : goal.returns-then-is_justified
unfolding justified_entry
returns-then-is_justified c = simp (← c.is_justified.ensures, c.if-is_justified.true, c.is_justified-then-is_justified.ensures)

pub returns-else-is_justified : goal.returns-else-is_justified
unfolding justified_entry
returns-else-is_justified c = simp (← c.is_justified.ensures, c.if-is_justified.false)
