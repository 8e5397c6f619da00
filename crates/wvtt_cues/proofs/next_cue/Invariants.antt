-- `wvtt_cues::next_cue` meets its contract. The invariant: the first cue of what is left is the answer.
use Rattle.wvtt_cues.specs.Cues.{next_cue}
use Rattle.boxes.specs.Boxes.{boxes_in}
use lib.ListN.{length}
use mathlib.Core.Path.{◌≡◌}
use Prim.Native.Nat.{◌-◌}
use Rattle.wvtt_cues.proofs.next_cue.Given as goal

abbrev pub invariant-loop-kind : goal.invariant-loop-kind
invariant-loop-kind l = next_cue l.s (boxes_in l.s l.at (length l.s)) ≡ next_cue l.s (boxes_in l.s l.from (length l.s))

abbrev pub decreases-loop-kind : goal.decreases-loop-kind
decreases-loop-kind l = length l.s - l.at
