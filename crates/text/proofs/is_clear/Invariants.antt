-- The bytes before i are unmarked, and i is inside the text.
use Prim.Native.Nat.{◌-◌, ◌<◌}
use Rattle.text.proofs.Marks.{unmarked_at, Passes}
use Rattle.text.proofs.is_clear.Given as goal

abbrev pub invariant-loop-i : goal.invariant-loop-i
invariant-loop-i l = (l.i < l.n) × Passes (unmarked_at l.s) 0 l.i

abbrev pub decreases-loop-i : goal.decreases-loop-i
decreases-loop-i l = l.n - l.i
