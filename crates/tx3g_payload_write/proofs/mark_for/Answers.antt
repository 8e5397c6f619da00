-- The byte or another.
use mathlib.Core.Path.{ap, ◌∙◌}
use Prim.Native.Nat.{ℕ}
use lib.Dec.{eqb}
use Rattle.tx3g_payload_write.proofs.Plain.{byte-is}
use Rattle.tx3g_payload_write.proofs.mark_for.Goals as goal

pub returns : goal.returns
returns c = ap (λ (x : ℕ). eqb x 0) c.from.ensures ∙ byte-is _
