-- Three marks, each of them 0 or 1.
use native.Mathlib.Omega.{arith}
use Rattle.tx3g_tidy.proofs.Escapes.{extra-most, mark-most, marks-extra}
use Rattle.tx3g_tidy.proofs.extra_of.Goals as goal

pub overflow_mul-result : goal.overflow_mul-result
overflow_mul-result c = omega (arith, mark-most c.args.b 0x26 _ c.mark_for.ensures)

pub overflow_mul-result-2 : goal.overflow_mul-result-2
overflow_mul-result-2 c = omega (arith, mark-most c.args.b 0x3C _ c.mark_for-2.ensures)

pub overflow_add-result : goal.overflow_add-result
overflow_add-result c = let b = c.args.b in omega (arith, mark-most b 0x26 _ c.mark_for.ensures, mark-most b 0x3C _ c.mark_for-2.ensures)

pub overflow_mul-result-3 : goal.overflow_mul-result-3
overflow_mul-result-3 c = omega (arith, mark-most c.args.b 0x3E _ c.mark_for-3.ensures)

pub overflow_add-result-2 : goal.overflow_add-result-2
overflow_add-result-2 c =
    let b = c.args.b in
    omega (arith, mark-most b 0x26 _ c.mark_for.ensures, mark-most b 0x3C _ c.mark_for-2.ensures, mark-most b 0x3E _ c.mark_for-3.ensures)

pub returns : goal.returns
returns c =
    let e = marks-extra _ _ _ _ c.mark_for.ensures c.mark_for-2.ensures c.mark_for-3.ensures in
    (e, omega (arith, e, extra-most c.args.b))
