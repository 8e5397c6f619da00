use mathlib.Core.Path.{◌≡◌, refl}
use native.Mathlib.Omega.{arith}
use native.Mathlib.Numerals.{add-one}
use borrow.Author.Tests.{le-leb, lt-leb}
use Rattle.base.specs.Iter.{iter}
use Rattle.ascii.specs.Ascii.{all}
use Rattle.ascii.proofs.Blocks.{or-none, mark-none}
use Rattle.vtt_lines.specs.Cursor.{high}
use Rattle.vtt_lines.proofs.is_inside8.Goals as goal

pub returns-then-s-i-lt8 : goal.returns-then-s-i-lt8
returns-then-s-i-lt8 c = rw (lt-leb _ _ c.if-s-i-lt8.true)

pub loop-k-init : goal.loop-k-init
unfolding all iter
loop-k-init c = (omega arith, refl)

pub loop-k-preserved : goal.loop-k-preserved
unfolding all high iter
loop-k-preserved c = (omega arith, rw (add-one, all, iter, or-none, c.low_mark-x.ensures, mark-none, c.loop-k.invariant.1))

pub returns : goal.returns
returns c = let e : c.loop-k.k ≡ 8 = omega arith in rw (le-leb _ _ c.if-s-i-lt8.false, ← e) c.loop-k.invariant.1
