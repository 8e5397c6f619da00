-- The first digit counts ten times.
use native.Mathlib.Omega.{arith}
use Rattle.timestamps.proofs.Laws.{two-value}
use Rattle.timestamps.proofs.two_digits.Goals as goal

pub returns : goal.returns
returns c =
    let e = two-value c.args.s.now c.args.at (omega arith) in
    (omega (arith, e, c.number_of.ensures.0, c.number_of-2.ensures.0), omega (arith, c.number_of.ensures.1, c.number_of-2.ensures.1))
