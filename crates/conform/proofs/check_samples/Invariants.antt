use Rattle.conform.proofs.Laws.{answer_from}
use Rattle.conform.specs.Window.{Reached}
use Rattle.table.specs.Table.{row_count, offset_of}
use Rattle.track.specs.Track.{track_of}
use Rattle.cues.specs.List.{cues_of}
use Rattle.timeline.specs.Checking.{check}
use Rattle.times.specs.Times.{tick}
use mathlib.Core.Path.{◌≡◌}
use Prim.Native.Nat.{◌*◌, ◌≤◌}
use Rattle.conform.proofs.check_samples.Given as goal

abbrev pub invariant-loop-i : goal.invariant-loop-i
invariant-loop-i l = (l.i ≤ row_count l.table) × (l.begin ≤ l.i * 4294967296) × (l.at ≡ offset_of l.table l.i) × Reached l.scale l.records l.window l.begin × (answer_from (cues_of l.scale l.records l.pool) (tick l.scale l.t) l.table l.samples l.begin l.i ≡ check (cues_of l.scale l.records l.pool) (tick l.scale l.t) (track_of l.table l.samples))
