-- `wvtt::judge_cue` meets its contract. The invariant: judging what is left, after the kinds before, gives the whole verdict.
use Rattle.wvtt.specs.Seen.{Marks}
use Rattle.wvtt.specs.Sample.{in_cue, end_cue, judge_cue}
use Rattle.boxes.specs.Boxes.{boxes_in, judged}
use mathlib.Core.List.{List}
use mathlib.Core.Path.{◌≡◌}
use Prim.Native.Nat.{ℕ, ◌-◌}
use Rattle.wvtt.proofs.judge_cue.Given as goal

abbrev pub invariant-loop-kind : goal.invariant-loop-kind
invariant-loop-kind l = (before : List ℕ) × Marks l.seen before × (judged (in_cue l.s) (end_cue l.place) before (boxes_in l.s l.at l.end) ≡ judge_cue l.s l.place l.from l.end)

abbrev pub decreases-loop-kind : goal.decreases-loop-kind
decreases-loop-kind l = l.end - l.at
