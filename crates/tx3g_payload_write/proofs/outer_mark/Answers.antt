-- Test by test.
use mathlib.Core.Path.{ap, ◌∙◌}
use Prim.Native.Nat.{ℕ}
use lib.Dec.{eqb}
use Rattle.tx3g_payload_write.proofs.Plain.{byte-is, outer-low, outer-high}
use Rattle.tx3g_payload_write.proofs.outer_mark.Goals.{then-b-lt32, else-b-lt32}
use Rattle.tx3g_payload_write.proofs.outer_mark.Goals as goal

pub returns : goal.returns
returns c = ap (λ (x : ℕ). eqb x 0) c.from.ensures ∙ byte-is _ ∙ elim c.if-b-lt32.branch [
  | then-b-lt32 w ↦ outer-low _ _ w.from-is w.if-b-lt32.true
  | else-b-lt32 w ↦ outer-high _ _ w.from-is w.if-b-lt32.false
]
