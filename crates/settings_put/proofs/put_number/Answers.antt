-- `settings_put::put_number` meets its contract: the digits, behind `-` below zero.
use lib.ListN.{length-set}
use mathlib.Core.Path.{◌∙◌}
use native.Mathlib.Omega.{arith}
use Rattle.settings_put.proofs.Laws.{five-digits, minus-written, plain-written}
use Rattle.settings_put.proofs.put_number.Goals as goal

pub put_decimal-requires : goal.put_decimal-requires
put_decimal-requires c = simp length-set (omega (arith, five-digits c.magnitude.result (omega (arith, c.magnitude.ensures.1))))

pub shape_of-out-then-n-lt0 : goal.shape_of-out-then-n-lt0
shape_of-out-then-n-lt0 c = c.put_decimal.auto.out ∙ length-set c.args.out.now c.args.at 45

pub returns-then-n-lt0 : goal.returns-then-n-lt0
returns-then-n-lt0 c = let a = c.args in
    let m = c.magnitude.ensures in
    let d = c.put_decimal.ensures in
    let w = minus-written a.n c.ranges.n a.out.now _ a.at _ _ m.0 c.if-n-lt0.true d.0 d.1 (omega arith) in
    (w.0, w.1, omega (arith, d.0, five-digits c.magnitude.result (omega (arith, m.1))))

pub put_decimal-requires-2 : goal.put_decimal-requires-2
put_decimal-requires-2 c = omega (arith, five-digits c.magnitude-2.result (omega (arith, c.magnitude-2.ensures.1)))

pub returns : goal.returns
returns c = let a = c.args in
    let m = c.magnitude-2.ensures in
    let d = c.put_decimal-2.ensures in
    let w = plain-written a.n c.ranges.n a.out.now _ a.at _ _ m.0 c.if-n-lt0.false d.0 d.1 in
    (w.0, w.1, omega (arith, d.0, five-digits c.magnitude-2.result (omega (arith, m.1))))
