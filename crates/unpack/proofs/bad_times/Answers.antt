use Prim.Native.Nat.{◌<◌}
use native.Mathlib.Omega.{arith}
use borrow.Author.Tests.{le-ltb, lt-ltb}
use Rattle.unpack.specs.Unpacking.{bad_times}
use Rattle.unpack.proofs.bad_times.Goals.{then-from-gt359999999, else-from-gt359999999}
use Rattle.unpack.proofs.bad_times.Goals as goal

pub returns-then-to-gt359999999 : goal.returns-then-to-gt359999999
unfolding bad_times
returns-then-to-gt359999999 c = elim c.if-from-gt359999999.branch [
  | then-from-gt359999999 w ↦ simp (← c.ms_of-from.ensures.0, lt-ltb _ _ w.if-from-gt359999999.true) cc
  | else-from-gt359999999 w ↦ let k : 359999999 < c.ms_of-to.result = omega (arith, c.if-to-gt359999999.either, w.if-from-gt359999999.false) in
      let h = lt-ltb _ _ k in
      simp (← c.ms_of-from.ensures.0, le-ltb _ _ w.if-from-gt359999999.false, ← c.ms_of-to.ensures.0, h) (cc h)
]

pub returns-else-to-gt359999999 : goal.returns-else-to-gt359999999
unfolding bad_times
returns-else-to-gt359999999 c = let h = c.if-to-gt359999999.false in
    simp (← c.ms_of-from.ensures.0, le-ltb _ _ h.0, ← c.ms_of-to.ensures.0, le-ltb _ _ h.1)
