-- The invariant: what is made, and the stretches that are left, make the payload.
use Prim.Native.Nat.{◌-◌}
use lib.ListN.{take, drop}
use Rattle.tx3g_payload_write.proofs.Onward.{Onward}
use Rattle.tx3g_payload_write.proofs.put_stretches.Given as goal

abbrev pub invariant-loop-k : goal.invariant-loop-k
invariant-loop-k l = Onward l.e l.s l.characters l.utf16 (take (l.end - l.begin) (drop l.begin l.s)) l.initial.out l.out l.left l.from l.k l.made

abbrev pub decreases-loop-k : goal.decreases-loop-k
decreases-loop-k l = l.characters - l.k
