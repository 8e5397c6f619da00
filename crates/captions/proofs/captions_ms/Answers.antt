-- `captions::captions_ms` meets its contract: each return is the case of `ms_of` that its tests lead to.
use Rattle.captions.specs.Flat.{ms_of}
use native.Mathlib.Omega.{arith}
use Prim.Native.Nat.{◌<◌}
use borrow.Author.Tests.{lt-ltb, le-ltb}
use Rattle.captions.proofs.captions_ms.Goals as goal

pub returns-then-scale-eq0 : goal.returns-then-scale-eq0
unfolding ms_of
returns-then-scale-eq0 c = rw c.if-scale-eq0.true

pub returns-then-tick-ge281474976710656 : goal.returns-then-tick-ge281474976710656
unfolding ms_of
returns-then-tick-ge281474976710656 c = let p : 0 < c.args.scale = omega arith in simp (lt-ltb _ _ p, le-ltb _ _ c.if-tick-ge281474976710656.true)

pub returns : goal.returns
unfolding ms_of
returns c = let p : 0 < c.args.scale = omega arith in simp (lt-ltb _ _ p, lt-ltb _ _ c.if-tick-ge281474976710656.false, c.ms_of.ensures.0)
