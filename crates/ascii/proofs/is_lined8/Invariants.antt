-- The invariant: x is 0 exactly if the k bytes from i are lined.
use mathlib.Core.Path.{◌≡◌}
use lib.Dec.{eqb}
use Rattle.ascii.specs.Ascii.{lined, all_pairs}
use Rattle.ascii.proofs.is_lined8.Given as goal

abbrev pub invariant-loop-k : goal.invariant-loop-k
invariant-loop-k l = eqb l.x 0 ≡ all_pairs lined l.s l.i l.k
