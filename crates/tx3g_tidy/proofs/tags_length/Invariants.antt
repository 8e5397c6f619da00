-- The invariant: the tags before character k are measured.
use Prim.Native.Nat.{◌-◌}
use Rattle.tx3g_tidy.proofs.Measuring.{Measured}
use Rattle.tx3g_tidy.proofs.tags_length.Given as goal

abbrev pub invariant-loop-k : goal.invariant-loop-k
invariant-loop-k l = Measured l.e l.s l.characters l.left l.from l.k l.n

abbrev pub decreases-loop-k : goal.decreases-loop-k
decreases-loop-k l = l.characters - l.k
