use Rattle.cuts.specs.Window.{Ended, Started}
use Rattle.cuts.specs.Cuts.{bytes_to, CutAt}
use mathlib.Core.Path.{◌≡◌}
use Prim.Native.Nat.{◌-◌, ◌*◌, ◌≤◌}
use Rattle.cuts.proofs.measure.Given as goal

abbrev pub invariant-loop-b : goal.invariant-loop-b
invariant-loop-b l = CutAt l.scale l.end l.records l.n l.count l.b × (l.first ≤ l.n) × (l.last ≤ l.n) × Ended l.scale l.records l.first l.b × Started l.scale l.records l.last l.b × (l.bytes ≡ bytes_to l.scale l.end l.records l.n l.count) × (l.bytes ≤ l.count * 268435456)

abbrev pub decreases-loop-b : goal.decreases-loop-b
decreases-loop-b l = l.end - l.b
