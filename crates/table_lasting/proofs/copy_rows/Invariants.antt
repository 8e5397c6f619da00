use Prim.Native.Nat.{◌-◌}
use Rattle.table_lasting.proofs.Turns.{Copied}
use Rattle.table_lasting.proofs.copy_rows.Given as goal

abbrev pub invariant-loop-i : goal.invariant-loop-i
invariant-loop-i l = Copied l.table l.samples l.initial.rows l.initial.content l.rows l.content l.i l.kept l.to l.at

abbrev pub decreases-loop-i : goal.decreases-loop-i
decreases-loop-i l = l.count - l.i
