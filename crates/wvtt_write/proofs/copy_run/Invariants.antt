-- The invariant: the first i bytes are copied.
use Prim.Native.Nat.{◌-◌, ◌+◌, ◌≤◌}
use mathlib.Core.Path.{◌≡◌}
use Rattle.base.specs.Over.{wrote}
use Rattle.boxes.specs.Boxes.{part}
use Rattle.wvtt_write.proofs.copy_run.Given as goal

abbrev pub invariant-loop-i : goal.invariant-loop-i
invariant-loop-i l = (l.i ≤ l.n) × (l.out ≡ wrote l.initial.out l.at (part l.src l.from (l.from + l.i)))

abbrev pub decreases-loop-i : goal.decreases-loop-i
decreases-loop-i l = l.last - l.i
