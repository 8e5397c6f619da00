-- The invariant: the stretches before character k are written.
use Prim.Native.Nat.{◌-◌}
use lib.ListN.{take, drop}
use Rattle.tx3g_tidy.proofs.Parts.{Laid}
use Rattle.tx3g_tidy.proofs.put_parts.Given as goal

abbrev pub invariant-loop-k : goal.invariant-loop-k
invariant-loop-k l = Laid l.e l.s l.characters (take (l.end - 2) (drop 2 l.s)) l.initial.out l.out l.left l.from l.k l.at l.bytes

abbrev pub decreases-loop-k : goal.decreases-loop-k
decreases-loop-k l = l.characters - l.k
