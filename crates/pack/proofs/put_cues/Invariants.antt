use Rattle.pack.specs.Writing.{shown}
use Rattle.cuts.specs.Cuts.{cues_size}
use Rattle.wvtt_write.specs.Written.{cues_bytes}
use Rattle.base.specs.Over.{wrote}
use lib.ListN.{length}
use mathlib.Core.Path.{◌≡◌}
use Prim.Native.Nat.{◌+◌, ◌≤◌}
use Rattle.pack.proofs.put_cues.Given as goal

abbrev pub invariant-loop-k : goal.invariant-loop-k
invariant-loop-k l = (l.k ≤ l.last) × (l.to ≡ l.at + cues_size l.scale l.records l.b l.k) × (l.out ≡ wrote l.initial.out l.at (cues_bytes (shown l.scale l.records l.pool l.b l.k))) × (length l.out ≡ length l.initial.out)
