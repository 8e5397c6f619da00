-- The invariant: what is written, and what is left to be written, make the stretch.
use Rattle.tx3g_payload_write.proofs.Tags.{Going}
use Rattle.tx3g_payload_write.proofs.put_walk.Given as goal

abbrev pub invariant-loop-w : goal.invariant-loop-w
invariant-loop-w l = Going l.text l.utf16 l.face l.initial.w l.initial.out l.out l.w

abbrev pub decreases-loop-w : goal.decreases-loop-w
decreases-loop-w l = l.w.left
