-- Box by box: those before `at` are counted.
use Prim.Native.Nat.{◌-◌}
use lib.ListN.{length}
use Rattle.tx3g_stock.proofs.Laws.{Counted}
use Rattle.tx3g_stock.proofs.count_boxes.Given as goal

abbrev pub invariant-loop-kind : goal.invariant-loop-kind
invariant-loop-kind l = Counted l.s l.initial.counts l.counts l.at

abbrev pub decreases-loop-kind : goal.decreases-loop-kind
decreases-loop-kind l = length l.s - l.at
