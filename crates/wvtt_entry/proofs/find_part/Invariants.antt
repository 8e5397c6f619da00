-- `wvtt_entry::find_part` meets its contract. The invariant: the search from here on gives the whole answer.
use Rattle.wvtt_entry.specs.Reading.{first_body}
use Rattle.boxes.specs.Boxes.{boxes_in}
use lib.ListN.{length}
use mathlib.Core.Path.{◌≡◌}
use Prim.Native.Nat.{◌-◌}
use Rattle.wvtt_entry.proofs.find_part.Given as goal

abbrev pub invariant-loop-kind : goal.invariant-loop-kind
invariant-loop-kind l = first_body l.wanted (boxes_in l.e l.at (length l.e)) ≡ first_body l.wanted (boxes_in l.e l.from (length l.e))

abbrev pub decreases-loop-kind : goal.decreases-loop-kind
decreases-loop-kind l = length l.e - l.at
