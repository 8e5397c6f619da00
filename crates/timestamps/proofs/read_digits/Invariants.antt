-- The digits are counted and their number is kept within the limit.
use Rattle.timestamps.proofs.Laws.{Counting}
use Rattle.timestamps.proofs.read_digits.Given as goal

abbrev pub invariant-loop-i : goal.invariant-loop-i
invariant-loop-i l = Counting l.s l.most l.i l.number
