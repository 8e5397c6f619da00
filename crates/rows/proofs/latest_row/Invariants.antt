use Prim.Native.Nat.{◌-◌}
use Rattle.rows.specs.Table.{Missing}
use Rattle.rows.proofs.latest_row.Given as goal

abbrev pub invariant-loop-passed : goal.invariant-loop-passed
invariant-loop-passed l = Missing l.tab (l.n - l.passed) l.n l.id
