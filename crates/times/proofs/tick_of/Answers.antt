-- `times::tick_of` meets its contract: the product of two 32-bit numbers fits.
use native.Mathlib.Omega.{arith}
use mathlib.Core.Path.{◌≡◌}
use Rattle.base.proofs.Choice.{product}
use Rattle.times.specs.Times.{tick}
use Rattle.times.proofs.tick_of.Goals as goal

pub overflow_mul-result : goal.overflow_mul-result
overflow_mul-result c = omega (arith, product c.from.result c.from-2.result 4294967295 4294967295 (omega (arith, c.from.ensures)) (omega (arith, c.from-2.ensures)))

pub returns : goal.returns
unfolding tick
returns c =
    let m : c.from.result ≡ c.args.m = c.from.ensures in
    let s : c.from-2.result ≡ c.args.scale = c.from-2.ensures in
    rw (m, s) (omega (arith, product c.args.m c.args.scale 4294967295 4294967295 (omega arith) (omega arith)))
