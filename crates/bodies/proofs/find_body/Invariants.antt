-- `bodies::find_body` meets its contract. The invariant: the search from here on gives the whole answer.
use Rattle.bodies.specs.Bodies.{body_of}
use Rattle.boxes.specs.Boxes.{boxes_in}
use lib.ListN.{length}
use mathlib.Core.Path.{◌≡◌}
use Prim.Native.Nat.{◌-◌}
use Rattle.bodies.proofs.find_body.Given as goal

abbrev pub invariant-loop-kind : goal.invariant-loop-kind
invariant-loop-kind l = body_of l.wanted (boxes_in l.s l.at (length l.s)) ≡ body_of l.wanted (boxes_in l.s l.from (length l.s))

abbrev pub decreases-loop-kind : goal.decreases-loop-kind
decreases-loop-kind l = length l.s - l.at
