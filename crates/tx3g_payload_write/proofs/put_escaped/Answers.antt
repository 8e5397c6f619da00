-- By the character.
use Rattle.tx3g_payload_write.proofs.Stores.{wrote_as, wrote-most, escape-amp, escape-less, escape-greater, escape-none}
use native.Mathlib.Omega.{arith}
use Rattle.tx3g_payload_write.proofs.put_escaped.Goals as goal

pub returns-in-38 : goal.returns-in-38
returns-in-38 c = let e = c.put_bytes.ensures in wrote_as _ _ _ _ _ _ _ (escape-amp _ c.in-38.is) (e.0, omega (arith, e.0), e.1)

pub returns-in-60 : goal.returns-in-60
returns-in-60 c = let e = c.put_bytes-in-60.ensures in wrote_as _ _ _ _ _ _ _ (escape-less _ c.in-60.is) (e.0, omega (arith, e.0), e.1)

pub returns-in-62 : goal.returns-in-62
returns-in-62 c = let e = c.put_bytes-in-62.ensures in wrote_as _ _ _ _ _ _ _ (escape-greater _ c.in-62.is) (e.0, omega (arith, e.0), e.1)

pub returns-in_default : goal.returns-in_default
returns-in_default c = wrote_as _ _ _ _ _ _ _ (escape-none _ (λ e. omega arith) (λ e. omega arith) (λ e. omega arith)) (wrote-most _ _ 4 5 _ _ _ (omega arith) c.put_character.ensures)
