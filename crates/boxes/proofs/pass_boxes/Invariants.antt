-- `boxes::pass_boxes` meets its contract. The invariant: passing over what is left gives the whole answer.
use Prim.Native.Nat.{◌-◌}
use mathlib.Core.Path.{◌≡◌}
use Rattle.boxes.specs.Boxes.{boxes_in, passed}
use Rattle.boxes.proofs.pass_boxes.Given as goal

abbrev pub invariant-loop-next : goal.invariant-loop-next
invariant-loop-next l = passed (boxes_in l.s l.at l.end) ≡ passed (boxes_in l.s l.from l.end)

abbrev pub decreases-loop-next : goal.decreases-loop-next
decreases-loop-next l = l.end - l.at
