-- The invariant: all bytes are the same exactly if those so far are, and those from i on.
use mathlib.Core.Path.{◌≡◌}
use lib.ListN.{drop}
use Rattle.base.specs.Choice.{both, same_list}
use Rattle.compare.proofs.same_bytes.Given as goal

abbrev pub invariant-loop-i : goal.invariant-loop-i
invariant-loop-i l = both l.same (same_list (drop l.i l.a) (drop l.i l.b)) ≡ same_list l.a l.b
