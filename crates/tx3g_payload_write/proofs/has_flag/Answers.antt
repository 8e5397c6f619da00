-- The quotient's lowest bit.
use mathlib.Core.Path.{refl}
use Rattle.tx3g_payload.specs.Payload.{flag}
use Rattle.tx3g_payload_write.proofs.has_flag.Goals as goal

pub returns : goal.returns
unfolding flag
returns c = refl
