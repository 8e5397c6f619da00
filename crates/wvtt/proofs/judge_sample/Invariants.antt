-- `wvtt::judge_sample` meets its contract. The invariant: judging what is left, after the kinds before, gives the whole verdict; the counts are those of the kinds.
use Rattle.wvtt.specs.Sample.{in_sample, end_sample, judge_sample}
use Rattle.wvtt.specs.Kinds.{vttc, vtte}
use Rattle.boxes.specs.Boxes.{boxes_in, judged, times}
use lib.ListN.{length}
use mathlib.Core.List.{List}
use mathlib.Core.Path.{◌≡◌}
use Prim.Native.Nat.{ℕ, ◌-◌, ◌≤◌}
use Rattle.wvtt.proofs.judge_sample.Given as goal

abbrev pub invariant-loop-kind : goal.invariant-loop-kind
invariant-loop-kind l = (before : List ℕ) × (l.cues ≡ times vttc before) × (l.empties ≡ times vtte before) × (judged (in_sample l.s) end_sample before (boxes_in l.s l.at (length l.s)) ≡ judge_sample l.s) × (l.cues ≤ l.at) × (l.empties ≤ l.at)

abbrev pub decreases-loop-kind : goal.decreases-loop-kind
decreases-loop-kind l = length l.s - l.at
