use Rattle.cuts.specs.Cuts.{ticks_to, cues_size}
use Rattle.timeline.specs.Nearest.{nearest}
use mathlib.Core.Path.{◌≡◌}
use Prim.Native.Nat.{◌*◌, ◌≤◌}
use Rattle.cuts.proofs.scan_window.Given as goal

abbrev pub invariant-loop-k : goal.invariant-loop-k
invariant-loop-k l = (l.k ≤ l.last) × (l.s.next ≡ nearest l.top l.b (ticks_to l.scale l.records l.k)) × (l.s.cues ≡ cues_size l.scale l.records l.b l.k) × (l.s.cues ≤ l.k * 262144)
