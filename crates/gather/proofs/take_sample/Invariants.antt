use Prim.Native.Nat.{◌-◌, ◌≤◌}
use mathlib.Core.Path.{◌≡◌}
use lib.ListN.{length}
use Rattle.wvtt_cues.specs.Walk.{held_from}
use Rattle.wvtt_cues.specs.Cues.{sample_cues}
use Rattle.timeline.specs.Joining.{all_taken}
use Rattle.boxes.specs.Boxes.{part}
use Rattle.rows.specs.Table.{Good, known}
use Rattle.gather.proofs.take_sample.Given as goal

abbrev pub invariant-loop-held : goal.invariant-loop-held
invariant-loop-held l = (l.count ≤ 1024) × (length l.tab ≡ 9216) × Good (length l.samples) l.tab l.count × (all_taken l.b l.e (known l.samples l.tab l.count) l.k (held_from (part l.samples l.at l.end) l.from) ≡ all_taken l.b l.e (known l.samples l.initial.tab l.n) 0 (sample_cues (part l.samples l.at l.end)))

abbrev pub decreases-loop-held : goal.decreases-loop-held
decreases-loop-held l = l.end - l.at - l.from
