-- The bytes before i pass, and i is inside the text.
use Prim.Native.Nat.{◌-◌, ◌<◌}
use Rattle.text.proofs.Marks.{lined_at, Passes}
use Rattle.text.proofs.is_lined.Given as goal

abbrev pub invariant-loop-i : goal.invariant-loop-i
invariant-loop-i l = (l.i < l.n) × Passes (lined_at l.s) 0 l.i

abbrev pub decreases-loop-i : goal.decreases-loop-i
decreases-loop-i l = l.n - l.i
