use native.Mathlib.Nat.{add-zero}
use native.Mathlib.Omega.{arith}
use Rattle.base.specs.Iter.{iter}
use Rattle.characters.specs.Counting.{firsts_in}
use Rattle.characters.proofs.count8.Goals as goal

pub returns : goal.returns
unfolding firsts_in iter
returns c = (rw (add-zero, c.first_byte.ensures.0, c.first_byte-2.ensures.0, c.first_byte-3.ensures.0, c.first_byte-4.ensures.0, c.first_byte-5.ensures.0, c.first_byte-6.ensures.0, c.first_byte-7.ensures.0, c.first_byte-8.ensures.0) (omega arith), omega arith)
