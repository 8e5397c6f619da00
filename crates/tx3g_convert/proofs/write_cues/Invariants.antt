-- Sample by sample: the cues that are counted are written.
use mathlib.Core.Path.{◌≡◌}
use lib.ListN.{length}
use Rattle.table.specs.Table.{offset_of}
use Rattle.tx3g_convert.specs.Convert.{stock_cues}
use Rattle.tx3g_convert.proofs.States.{Stands}
use Rattle.tx3g_convert.proofs.Writing.{Written}
use Rattle.tx3g_convert.proofs.write_cues.Given as goal

abbrev pub invariant-loop-i : goal.invariant-loop-i
invariant-loop-i l = (l.at ≡ offset_of l.table l.i) × (length l.buf ≡ 4128) × Stands l.scale l.e l.table l.samples l.i l.state
    × (length l.records ≡ length l.initial.records) × (length l.pool ≡ length l.initial.pool) × Written l.scale (stock_cues l.e l.table l.samples) l.state.cues l.initial.records l.initial.pool l.records l.pool
