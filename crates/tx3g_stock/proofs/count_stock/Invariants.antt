-- Sample by sample: the boxes of those before row i are counted.
use mathlib.Core.Path.{◌≡◌}
use Rattle.table.specs.Table.{offset_of}
use Rattle.tx3g_stock.specs.Stock.{counts_to}
use Rattle.tx3g_stock.proofs.count_stock.Given as goal

abbrev pub invariant-loop-i : goal.invariant-loop-i
invariant-loop-i l = (l.at ≡ offset_of l.table l.i) × (l.counts ≡ counts_to l.table l.samples l.i)
