-- `tx3g_contents::is_known` meets its contract.
use Rattle.tx3g_contents.specs.Kinds.{known}
use Rattle.tx3g_contents.proofs.is_known.Goals as goal

pub returns-then-is_single : goal.returns-then-is_single
unfolding known
returns-then-is_single c = simp (← c.is_single.ensures, c.if-is_single.true)

pub returns-else-is_single : goal.returns-else-is_single
unfolding known
returns-else-is_single c = simp (← c.is_single.ensures, c.if-is_single.false, c.is_ranged.ensures)
