-- The invariant: x is 0 exactly if none of the bytes before b is zero.
use mathlib.Core.Path.{◌≡◌}
use mathlib.Core.Bool.{not}
use lib.Dec.{eqb}
use lib.ListN.{take}
use Rattle.tx3g_payload.specs.Statements.{has_zero}
use Rattle.tx3g_convert.proofs.has_zero.Given as goal

abbrev pub invariant-loop-b : goal.invariant-loop-b
invariant-loop-b l = eqb l.x 0 ≡ not (has_zero (take l.b-index l.s))
