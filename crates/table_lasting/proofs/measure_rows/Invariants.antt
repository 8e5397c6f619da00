use Rattle.table_lasting.proofs.Turns.{Counted}
use Rattle.table_lasting.proofs.measure_rows.Given as goal

abbrev pub invariant-loop-i : goal.invariant-loop-i
invariant-loop-i l = Counted l.table l.samples l.i l.kept l.bytes l.at
