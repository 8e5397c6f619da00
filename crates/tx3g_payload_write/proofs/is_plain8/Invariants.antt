-- The invariant: x is 0 exactly if each of the first k bytes is plain.
use mathlib.Core.Path.{◌≡◌}
use lib.Dec.{eqb}
use Rattle.ascii.specs.Ascii.{all}
use Rattle.tx3g_payload_write.specs.Terms.{plain}
use Rattle.tx3g_payload_write.proofs.is_plain8.Given as goal

abbrev pub invariant-loop-k : goal.invariant-loop-k
invariant-loop-k l = eqb l.x 0 ≡ all plain l.text l.at l.k
