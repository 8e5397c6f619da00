use Prim.Native.Nat.{◌*◌, ◌≤◌}
use mathlib.Core.Path.{◌≡◌}
use lib.ListN.{length, drop}
use Rattle.table.specs.Table.{row_count, offset_of}
use Rattle.track.specs.Track.{track_of}
use Rattle.timeline.specs.Unpacking.{unpack}
use Rattle.timeline.specs.Joining.{unpack_from}
use Rattle.rows.specs.Table.{Good, known}
use Rattle.gather.proofs.Walking.{ticks_to}
use Rattle.gather.proofs.gather.Given as goal

abbrev pub invariant-loop-i : goal.invariant-loop-i
invariant-loop-i l = (l.i ≤ l.m) × (l.m ≡ row_count l.table) × (l.at ≡ offset_of l.table l.i) × (l.at ≤ length l.samples) × (l.n ≤ 1024) × (l.b ≡ ticks_to l.table l.samples l.i) × (l.b ≤ l.i * 4294967295) × Good (length l.samples) l.tab l.n × (length l.tab ≡ 9216) × (unpack_from l.b l.i (known l.samples l.tab l.n) (drop l.i (track_of l.table l.samples)) ≡ unpack (track_of l.table l.samples))
