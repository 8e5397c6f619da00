-- The invariant: the rows before i last.
use Rattle.table_lasting.specs.Copying.{Lasts}
use Rattle.table_lasting.proofs.find_run.Given as goal

abbrev pub invariant-loop-i : goal.invariant-loop-i
invariant-loop-i l = Lasts l.table l.from l.i l.bytes
