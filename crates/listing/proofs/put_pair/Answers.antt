-- `listing::put_pair` meets its contract.
use Rattle.listing.proofs.Laws.{length-pair, paired}
use native.Mathlib.Omega.{arith}
use Rattle.listing.proofs.put_pair.Goals as goal

pub put_number-behind-requires : goal.put_number-behind-requires
put_number-behind-requires c = omega (arith, length-pair c.args.n c.args.m)

pub put_number-requires : goal.put_number-requires
put_number-requires c = omega (arith, length-pair c.args.n c.args.m)

pub returns : goal.returns
returns c = let a = c.args in
    let l = length-pair a.n a.m in
    (omega arith, paired a.out.now _ _ a.at _ a.n a.m c.put_number-behind.ensures.1 c.put_number.ensures.1 c.put_number-behind.ensures.0 (omega arith))
