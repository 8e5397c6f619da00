-- `settings_put::put_percent` meets its contract: the whole part, the decimals and the mark.
use lib.ListN.{length-set}
use mathlib.Core.Path.{◌∙◌}
use native.Mathlib.Omega.{arith}
use Prim.Native.Nat.{◌/◌}
use Rattle.settings_put.proofs.Laws.{three-digits, percent-written}
use Rattle.settings_put.proofs.put_percent.Goals as goal

pub put_decimal-point-requires : goal.put_decimal-point-requires
put_decimal-point-requires c = omega (arith, three-digits (c.args.p / 100) (omega arith))

pub put_fraction-last-requires : goal.put_fraction-last-requires
put_fraction-last-requires c = (omega (arith, three-digits (c.args.p / 100) (omega arith), c.put_decimal-point.ensures.0, c.put_decimal-point.auto.out), omega arith)

pub bounds-out-last : goal.bounds-out-last
bounds-out-last c = omega (arith, three-digits (c.args.p / 100) (omega arith), c.put_decimal-point.ensures.0, c.put_decimal-point.auto.out, c.put_fraction-last.ensures.2, c.put_fraction-last.auto.out)

pub overflow_add-result : goal.overflow_add-result
overflow_add-result c = omega (arith, three-digits (c.args.p / 100) (omega arith), c.put_decimal-point.ensures.0, c.put_fraction-last.ensures.2)

pub shape_of-out : goal.shape_of-out
shape_of-out c = length-set c.put_fraction-last.new.out c.put_fraction-last.result 37 ∙ c.put_fraction-last.auto.out ∙ c.put_decimal-point.auto.out

pub returns : goal.returns
returns c = let a = c.args in
    let s = three-digits (a.p / 100) (omega arith) in
    let d = c.put_decimal-point.ensures in
    let f = c.put_fraction-last.ensures in
    let k = c.put_decimal-point.auto.out in
    let k₂ = c.put_fraction-last.auto.out in
    let w = percent-written a.out.now _ _ a.at _ _ a.p d.0 d.1 f.0 f.1 (omega arith) (omega arith) in
    (w.0, w.1, omega (arith, d.0, f.2))
