-- All bytes are digits, and the number is within its limit.
use mathlib.Core.Path.{sym}
use lib.IntN.{pos, neg_ℤ}
use mir.Syntax.{w16}
use mir.Facts.{to_z-of_z}
use Rattle.settings_values.proofs.Laws.{no-digits, more-than-digits, too_large, number_is, minus-fits}
use native.Mathlib.Omega.{arith}
use Rattle.settings_values.proofs.read_negative.Goals as goal

pub returns-then-s-eq0 : goal.returns-then-s-eq0
returns-then-s-eq0 c = sym (no-digits _ _ _ c.read_digits-d.ensures.0 c.read_digits-d.ensures.1 32768 (omega arith) (λ n. neg_ℤ (pos n)) c.if-s-eq0.true)

pub returns-then-d-s : goal.returns-then-d-s
returns-then-d-s c = sym (more-than-digits _ _ _ c.read_digits-d.ensures.0 c.read_digits-d.ensures.1 32768 (omega arith) (λ n. neg_ℤ (pos n)) c.if-d-s.true)

pub returns-then-d-gt32768 : goal.returns-then-d-gt32768
returns-then-d-gt32768 c = sym (too_large _ _ _ c.read_digits-d.ensures.0 c.read_digits-d.ensures.1 32768 (omega arith) (λ n. neg_ℤ (pos n)) c.if-d-gt32768.true)

pub returns : goal.returns
returns c = rw (c.negative.ensures, to_z-of_z (minus-fits w16 _ c.if-d-gt32768.false)) (sym (number_is _ _ _ c.read_digits-d.ensures.0 c.read_digits-d.ensures.1 32768 (omega arith) (λ n. neg_ℤ (pos n)) (omega (arith, c.if-s-eq0.false)) (omega (arith, c.if-d-s.false)) c.if-d-gt32768.false))
