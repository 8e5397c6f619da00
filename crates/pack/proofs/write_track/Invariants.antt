use Rattle.pack.specs.Packing.{packed_track, table_bytes, samples_bytes}
use Rattle.cuts.specs.Window.{Ended, Started}
use Rattle.cuts.specs.Cuts.{CutAt}
use Rattle.records.specs.Records.{count}
use Rattle.times.specs.Times.{tick}
use Rattle.base.specs.Over.{over}
use lib.ListN.{length, take}
use mathlib.Core.Path.{◌≡◌}
use Prim.Native.Nat.{◌-◌, ◌≤◌}
use Rattle.pack.proofs.write_track.Given as goal

abbrev pub invariant-loop-b : goal.invariant-loop-b
invariant-loop-b l = CutAt l.scale (tick l.scale l.t) l.records (count l.records) l.i l.b × (l.first ≤ count l.records) × (l.last ≤ count l.records) × Ended l.scale l.records l.first l.b × Started l.scale l.records l.last l.b
    × (l.at ≡ length (samples_bytes (take l.i (packed_track l.scale l.t l.records l.pool))))
    × (l.table ≡ over (table_bytes (take l.i (packed_track l.scale l.t l.records l.pool))) l.initial.table) × (l.samples ≡ over (samples_bytes (take l.i (packed_track l.scale l.t l.records l.pool))) l.initial.samples)
    × (length l.table ≡ length l.initial.table) × (length l.samples ≡ length l.initial.samples)

abbrev pub decreases-loop-b : goal.decreases-loop-b
decreases-loop-b l = l.end - l.b
