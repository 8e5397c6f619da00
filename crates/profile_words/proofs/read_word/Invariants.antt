-- Byte by byte: those of the word before i are read.
use Prim.Native.Nat.{◌+◌, ◌≤◌}
use lib.ListN.{length}
use Rattle.profile_words.proofs.Laws.{Word}
use Rattle.profile_words.proofs.read_word.Given as goal

abbrev pub invariant-loop-i : goal.invariant-loop-i
invariant-loop-i l = (l.at + l.i ≤ length l.s) × Word l.s l.w l.at l.i
