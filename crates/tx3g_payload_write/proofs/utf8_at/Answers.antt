-- By how many bytes the first one tells.
use native.Mathlib.Omega.{arith}
use Rattle.tx3g_payload_write.proofs.Characters.{utf8-is-at, of_one, from-two, of_two, from-three, of_three, from-four, of_four}
use Rattle.tx3g_payload_write.proofs.utf8_at.Goals as goal

pub returns-then-a-lt128 : goal.returns-then-a-lt128
returns-then-a-lt128 c = of_one _ _ _ (utf8-is-at _ _ c.requires.0 c.requires.1) c.byte_at-a.ensures.0 c.if-a-lt128.true

pub byte_at-b-requires : goal.byte_at-b-requires
byte_at-b-requires c = (from-two _ _ _ (utf8-is-at _ _ c.requires.0 c.requires.1) c.byte_at-a.ensures.0 (omega arith)).0

pub overflow_sub-result : goal.overflow_sub-result
overflow_sub-result c = (from-two _ _ _ (utf8-is-at _ _ c.requires.0 c.requires.1) c.byte_at-a.ensures.0 (omega arith)).1

pub overflow_sub-result-then-a-lt224 : goal.overflow_sub-result-then-a-lt224
overflow_sub-result-then-a-lt224 c = let f = from-two _ _ _ (utf8-is-at _ _ c.requires.0 c.requires.1) c.byte_at-a.ensures.0 (omega arith) in omega (arith, f.2, c.byte_at-b.ensures.0)

pub returns-then-a-lt224 : goal.returns-then-a-lt224
returns-then-a-lt224 c = of_two _ _ _ _ (utf8-is-at _ _ c.requires.0 c.requires.1) c.byte_at-a.ensures.0 c.byte_at-b.ensures.0 (omega arith) c.if-a-lt224.true

pub byte_at-c-requires : goal.byte_at-c-requires
byte_at-c-requires c = (from-three _ _ _ (utf8-is-at _ _ c.requires.0 c.requires.1) c.byte_at-a.ensures.0 (omega arith)).0

pub overflow_sub-result-then-a-lt240-2 : goal.overflow_sub-result-then-a-lt240-2
overflow_sub-result-then-a-lt240-2 c = let f = from-two _ _ _ (utf8-is-at _ _ c.requires.0 c.requires.1) c.byte_at-a.ensures.0 (omega arith) in omega (arith, f.2, c.byte_at-b.ensures.0)

pub overflow_sub-result-then-a-lt240-3 : goal.overflow_sub-result-then-a-lt240-3
overflow_sub-result-then-a-lt240-3 c = let f = from-three _ _ _ (utf8-is-at _ _ c.requires.0 c.requires.1) c.byte_at-a.ensures.0 (omega arith) in omega (arith, f.1, c.byte_at-c.ensures.0)

pub returns-then-a-lt240 : goal.returns-then-a-lt240
returns-then-a-lt240 c =
    of_three _ _ _ _ _ (utf8-is-at _ _ c.requires.0 c.requires.1) c.byte_at-a.ensures.0 c.byte_at-b.ensures.0 c.byte_at-c.ensures.0 (omega arith) c.if-a-lt240.true

pub byte_at-d-requires : goal.byte_at-d-requires
byte_at-d-requires c = (from-four _ _ _ (utf8-is-at _ _ c.requires.0 c.requires.1) c.byte_at-a.ensures.0 (omega arith)).0

pub overflow_sub-result-3 : goal.overflow_sub-result-3
overflow_sub-result-3 c = let f = from-two _ _ _ (utf8-is-at _ _ c.requires.0 c.requires.1) c.byte_at-a.ensures.0 (omega arith) in omega (arith, f.2, c.byte_at-b.ensures.0)

pub overflow_sub-result-4 : goal.overflow_sub-result-4
overflow_sub-result-4 c = let f = from-three _ _ _ (utf8-is-at _ _ c.requires.0 c.requires.1) c.byte_at-a.ensures.0 (omega arith) in omega (arith, f.1, c.byte_at-c.ensures.0)

pub overflow_sub-result-5 : goal.overflow_sub-result-5
overflow_sub-result-5 c = let f = from-four _ _ _ (utf8-is-at _ _ c.requires.0 c.requires.1) c.byte_at-a.ensures.0 (omega arith) in omega (arith, f.1, c.byte_at-d.ensures.0)

pub returns : goal.returns
returns c =
    of_four _ _ _ _ _ _ (utf8-is-at _ _ c.requires.0 c.requires.1) c.byte_at-a.ensures.0 c.byte_at-b.ensures.0 c.byte_at-c.ensures.0 c.byte_at-d.ensures.0 (omega arith)
