-- Sample by sample to the end.
use mathlib.Core.Path.{◌≡◌}
use lib.ListN.{length}
use Rattle.table.specs.Table.{offset_of}
use Rattle.tx3g_convert.proofs.States.{Stands}
use Rattle.tx3g_convert.proofs.take_samples.Given as goal

abbrev pub invariant-loop-i : goal.invariant-loop-i
invariant-loop-i l = (l.at ≡ offset_of l.table l.i) × (length l.buf ≡ 4128) × Stands l.scale l.e l.table l.samples l.i l.state
