-- The invariant: the text before i is written.
use Prim.Native.Nat.{◌-◌}
use Rattle.tx3g_tidy.proofs.Escapes.{ShownTo}
use Rattle.tx3g_tidy.proofs.put_shown.Given as goal

abbrev pub invariant-loop-i : goal.invariant-loop-i
invariant-loop-i l = ShownTo l.text l.initial.out l.at l.from l.end l.out l.to l.i

abbrev pub decreases-loop-i : goal.decreases-loop-i
decreases-loop-i l = l.end - l.i
