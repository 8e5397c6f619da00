-- The invariant: x is 0 exactly if the first byte is no LF, and each of those before i stays.
use Rattle.tx3g_tidy.proofs.Marks.{StaysTo}
use Rattle.tx3g_tidy.proofs.is_tidy.Given as goal

abbrev pub invariant-loop-i : goal.invariant-loop-i
invariant-loop-i l = StaysTo l.text l.i l.x
