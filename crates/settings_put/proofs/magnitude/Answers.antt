-- `settings_put::magnitude` meets its contract: a number below zero is taken from zero in 32 bits, which hold it.
use Rattle.settings_put.proofs.Laws.{read16, fits32, small, plain, turned-fits, turned-is}
use native.Mathlib.Omega.{arith}
use lib.IntN.{nat_abs}
use mathlib.Core.Path.{ap}
use Rattle.settings_put.proofs.magnitude.Goals as goal

pub overflow_cast-result : goal.overflow_cast-result
overflow_cast-result c = fits32 _ c.ranges.n

pub overflow_sub-result : goal.overflow_sub-result
overflow_sub-result c = turned-fits _ c.ranges.n c.if-n-lt0.true

pub overflow_cast-result-then-n-lt0 : goal.overflow_cast-result-then-n-lt0
overflow_cast-result-then-n-lt0 c = rw (turned-is _ c.ranges.n c.if-n-lt0.true) (tt, record { fits = omega (arith, small _ c.ranges.n) })

pub returns-then-n-lt0 : goal.returns-then-n-lt0
returns-then-n-lt0 c = let e = ap nat_abs (turned-is _ c.ranges.n c.if-n-lt0.true) in (e, omega (arith, e, small _ c.ranges.n))

pub overflow_cast-result-2 : goal.overflow_cast-result-2
overflow_cast-result-2 c = let e = ap nat_abs (read16 _ c.ranges.n) in (plain _ c.ranges.n c.if-n-lt0.false, record { fits = omega (arith, e, small _ c.ranges.n) })

pub returns : goal.returns
returns c = let e = ap nat_abs (read16 _ c.ranges.n) in (e, omega (arith, e, small _ c.ranges.n))
