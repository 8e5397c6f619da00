-- Cue by cue.
use Prim.Native.Nat.{◌+◌, ◌≤◌}
use mathlib.Core.Path.{◌≡◌}
use lib.ListN.{length}
use Rattle.base.specs.Over.{wrote}
use Rattle.vtt_write.specs.Steps.{cues_to, size_to}
use Rattle.vtt_write.proofs.put_cues.Given as goal

abbrev pub invariant-loop-i : goal.invariant-loop-i
invariant-loop-i l = (l.i ≤ l.n) × (l.place ≡ l.at + size_to l.records l.i) × (length l.out ≡ length l.initial.out) × (l.out ≡ wrote l.initial.out l.at (cues_to l.records l.pool l.i))
