-- `signed::rank` meets its contract: each half of the 16-bit numbers.
use Rattle.signed.specs.Rank.{shift16}
use borrow.Author.Tests.{lt-ltb, le-ltb}
use native.Mathlib.Omega.{arith}
use Rattle.signed.proofs.rank.Goals as goal

pub returns-then-v-lt32768 : goal.returns-then-v-lt32768
unfolding shift16
returns-then-v-lt32768 c = (simp (lt-ltb _ _ c.if-v-lt32768.true), omega arith)

pub returns-else-v-lt32768 : goal.returns-else-v-lt32768
unfolding shift16
returns-else-v-lt32768 c = (simp (le-ltb _ _ c.if-v-lt32768.false), omega arith)
