-- Where each character is one byte, as many bytes are passed.
use native.Mathlib.Omega.{arith}
use Rattle.tx3g_tidy.proofs.Places.{behind-single}
use Rattle.tx3g_tidy.proofs.end_of.Goals as goal

pub overflow_add-result : goal.overflow_add-result
overflow_add-result c = let p = c.requires in let b = behind-single _ _ _ p.0 (p.1 c.if-single.true) in omega (arith, b.here)

pub returns-then-single : goal.returns-then-single
returns-then-single c = let p = c.requires in behind-single _ _ _ p.0 (p.1 c.if-single.true)
