-- The length of the escape where five bytes are left; else byte by byte.
use mathlib.Core.Logic.{⊎_elim}
use native.Mathlib.Omega.{arith}
use Rattle.profile_words.proofs.read_escape.Goals as goal

pub overflow_add-result : goal.overflow_add-result
overflow_add-result c = ⊎_elim (λ z. absurd (c.if-n-ne0.true z)) (λ k. omega (arith, k.bounds.1)) c.escape_length-n.ensures

pub returns-then-n-ne0 : goal.returns-then-n-ne0
returns-then-n-ne0 c = ⊎_elim (λ z. absurd (c.if-n-ne0.true z)) (λ k. k) c.escape_length-n.ensures
