-- `listing::put_number` meets its contract.
use lib.ListN.{length-set}
use Rattle.listing.proofs.Laws.{length-number, ended}
use native.Mathlib.Omega.{arith}
use Rattle.listing.proofs.put_number.Goals as goal

pub put_decimal-behind-requires : goal.put_decimal-behind-requires
put_decimal-behind-requires c = omega (arith, length-number c.args.n c.args.end)

pub bounds-out-behind : goal.bounds-out-behind
bounds-out-behind c = omega (arith, length-number c.args.n c.args.end)

pub overflow_add-result : goal.overflow_add-result
overflow_add-result c = omega (arith, length-number c.args.n c.args.end)

pub returns : goal.returns
returns c = let l = length-number c.args.n c.args.end in
    (omega arith, ended c.args.out.now _ c.args.at _ c.args.n c.args.end c.put_decimal-behind.ensures.1 c.put_decimal-behind.ensures.0 (omega arith))

pub shape_of-out : goal.shape_of-out
shape_of-out c = simp length-set (omega arith)
