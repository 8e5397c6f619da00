-- `tx3g_entry::judge_boxes` meets its contract. The invariant: the kinds so far, and judging what is left gives the whole answer.
use Rattle.tx3g_entry.specs.Entry.{ftab, in_entry, nothing_more, entry_boxes}
use Rattle.boxes.specs.Boxes.{boxes_in, judged, among}
use lib.ListN.{length}
use mathlib.Core.List.{List, []}
use mathlib.Core.Path.{◌≡◌}
use Prim.Native.Nat.{ℕ, ◌-◌}
use Rattle.tx3g_entry.proofs.judge_boxes.Given as goal

abbrev pub invariant-loop-kind : goal.invariant-loop-kind
invariant-loop-kind l = (before : List ℕ) × (l.seen ≡ among ftab before) × (judged (in_entry l.e) nothing_more before (boxes_in l.e l.at (length l.e)) ≡ judged (in_entry l.e) nothing_more [] (entry_boxes l.e))

abbrev pub decreases-loop-kind : goal.decreases-loop-kind
decreases-loop-kind l = length l.e - l.at
