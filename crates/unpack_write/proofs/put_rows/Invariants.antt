-- `unpack_write::put_rows` meets its contract: each turn puts one row's cue behind those before it.
use Prim.Native.Nat.{◌≤◌}
use mathlib.Core.Path.{◌≡◌}
use lib.ListN.{length}
use Rattle.base.specs.Over.{over}
use Rattle.rows.specs.Table.{known}
use Rattle.records_write.specs.Records.{records_to, pool_to}
use Rattle.unpack_write.specs.Rows.{size_to}
use Rattle.unpack_write.proofs.put_rows.Given as goal

abbrev pub invariant-loop-i : goal.invariant-loop-i
invariant-loop-i l = (l.i ≤ l.n) × (l.at ≡ size_to l.tab l.i) × (l.records ≡ over (records_to l.scale (known l.samples l.tab l.n) l.i) l.initial.records) × (l.pool ≡ over (pool_to (known l.samples l.tab l.n) l.i) l.initial.pool) × (length l.records ≡ length l.initial.records) × (length l.pool ≡ length l.initial.pool)
