-- `tx3g_modifiers::next_modifier` meets its contract. The invariant: the search from here on gives the whole answer.
use Rattle.tx3g_modifiers.specs.Modifiers.{next_modifier}
use Rattle.boxes.specs.Boxes.{boxes_in}
use lib.ListN.{length}
use mathlib.Core.Path.{◌≡◌}
use Prim.Native.Nat.{◌-◌}
use Rattle.tx3g_modifiers.proofs.next_modifier.Given as goal

abbrev pub invariant-loop-kind : goal.invariant-loop-kind
invariant-loop-kind l = next_modifier l.s (boxes_in l.s l.at (length l.s)) ≡ next_modifier l.s (boxes_in l.s l.from (length l.s))

abbrev pub decreases-loop-kind : goal.decreases-loop-kind
decreases-loop-kind l = length l.s - l.at
