-- Row by row.
use Prim.Native.Nat.{◌≤◌}
use mathlib.Core.Path.{◌≡◌}
use lib.ListN.{length}
use Rattle.base.specs.Over.{over}
use Rattle.records_write.specs.Records.{records_to, pool_to}
use Rattle.vtt_read.specs.Steps.{list_of}
use Rattle.vtt_read.proofs.write_rows.Given as goal

abbrev pub invariant-loop-k : goal.invariant-loop-k
invariant-loop-k l = (l.k ≤ l.n) × (l.size ≡ length (pool_to (list_of l.s) l.k)) × (length l.buf ≡ 4096) × (length l.records ≡ length l.initial.records) × (length l.pool ≡ length l.initial.pool)
    × (l.records ≡ over (records_to 1000 (list_of l.s) l.k) l.initial.records) × (l.pool ≡ over (pool_to (list_of l.s) l.k) l.initial.pool)
