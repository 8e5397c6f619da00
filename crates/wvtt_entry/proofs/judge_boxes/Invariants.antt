-- `wvtt_entry::judge_boxes` meets its contract. The invariant: judging what is left, after the kinds before, gives the whole verdict.
use Rattle.wvtt_entry.specs.Entry.{vtt_c, vlab, in_entry, end_entry}
use Rattle.boxes.specs.Boxes.{boxes_in, judged, among}
use lib.ListN.{length}
use mathlib.Core.List.{List, []}
use mathlib.Core.Path.{◌≡◌}
use Prim.Native.Nat.{ℕ, ◌-◌}
use Rattle.wvtt_entry.proofs.judge_boxes.Given as goal

abbrev pub invariant-loop-kind : goal.invariant-loop-kind
invariant-loop-kind l = (before : List ℕ) × (l.configured ≡ among vtt_c before) × (l.labelled ≡ among vlab before) × (judged (in_entry l.e) end_entry before (boxes_in l.e l.at (length l.e)) ≡ judged (in_entry l.e) end_entry [] (boxes_in l.e 16 (length l.e)))

abbrev pub decreases-loop-kind : goal.decreases-loop-kind
decreases-loop-kind l = length l.e - l.at
