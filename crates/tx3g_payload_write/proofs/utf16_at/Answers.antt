-- By whether the first unit is a high surrogate.
use mathlib.Core.Logic.{inl, inr}
use native.Mathlib.Omega.{arith}
use Rattle.tx3g_payload_write.proofs.Characters.{utf16-is-at, unit-there, of-unit, from-pair, of_pair}
use Rattle.tx3g_payload_write.proofs.utf16_at.Goals.{then-h-lt216-via-then-h-lt216, then-h-lt216-via-else-h-lt216+then-h-gt219}
use Rattle.tx3g_payload_write.proofs.utf16_at.Goals as goal

pub byte_at-l-requires : goal.byte_at-l-requires
byte_at-l-requires c = unit-there _ _ (utf16-is-at _ _ c.requires.0 c.requires.1)

pub returns-then-h-lt216 : goal.returns-then-h-lt216
returns-then-h-lt216 c = elim c.then-h-lt216.branch [
  | then-h-lt216-via-then-h-lt216 w ↦ of-unit _ _ _ _ (utf16-is-at _ _ c.requires.0 c.requires.1) c.byte_at-h.ensures.0 c.byte_at-l.ensures.0 (inl w.if-h-lt216.true)
  | then-h-lt216-via-else-h-lt216+then-h-gt219 w ↦ of-unit _ _ _ _ (utf16-is-at _ _ c.requires.0 c.requires.1) c.byte_at-h.ensures.0 c.byte_at-l.ensures.0 (inr w.if-h-gt219.true)
]

pub byte_at-requires : goal.byte_at-requires
byte_at-requires c = let f = from-pair _ _ _ (utf16-is-at _ _ c.requires.0 c.requires.1) c.byte_at-h.ensures.0 (omega arith) (omega arith) in omega (arith, f.0)

pub overflow_sub-low : goal.overflow_sub-low
overflow_sub-low c = let f = from-pair _ _ _ (utf16-is-at _ _ c.requires.0 c.requires.1) c.byte_at-h.ensures.0 (omega arith) (omega arith) in omega (arith, f.1, c.byte_at.ensures.0)

pub byte_at-requires-2 : goal.byte_at-requires-2
byte_at-requires-2 c = (from-pair _ _ _ (utf16-is-at _ _ c.requires.0 c.requires.1) c.byte_at-h.ensures.0 (omega arith) (omega arith)).0

pub returns : goal.returns
returns c =
    of_pair _ _ _ _ _ _ (utf16-is-at _ _ c.requires.0 c.requires.1) c.byte_at-h.ensures.0 c.byte_at-l.ensures.0 c.byte_at.ensures.0 c.byte_at-2.ensures.0
    (omega arith) (omega arith)
