-- Cue by cue.
use Prim.Native.Nat.{◌*◌, ◌≤◌}
use mathlib.Core.Path.{◌≡◌}
use Rattle.vtt_write.specs.Steps.{size_to}
use Rattle.vtt_write.proofs.cues_size.Given as goal

abbrev pub invariant-loop-i : goal.invariant-loop-i
invariant-loop-i l = (l.i ≤ l.n) × (l.size ≡ size_to l.records l.i) × (l.size ≤ l.i * 262144)
