-- `decimal::put_decimal` meets its contract.
use native.Mathlib.Omega.{arith}
use Rattle.decimal.proofs.Laws.{length-one, length_more, one-digit, last-digit}
use Rattle.decimal.proofs.+put_decimal.Goals as goal

pub bounds-out-at : goal.bounds-out-at
bounds-out-at t c = omega (arith, length-one c.args.n c.if-n-lt10.true)

pub returns-then-n-lt10 : goal.returns-then-n-lt10
returns-then-n-lt10 t c = let l = length-one c.args.n c.if-n-lt10.true in (omega arith, one-digit c.args.out.now c.args.at c.args.n c.if-n-lt10.true (omega arith))

pub put_decimal-last-requires : goal.put_decimal-last-requires
put_decimal-last-requires t c = let l = length_more c.args.n c.if-n-lt10.false (omega arith) in (omega arith, omega arith)

pub bounds-out-last : goal.bounds-out-last
bounds-out-last t c = let l = length_more c.args.n c.if-n-lt10.false (omega arith) in omega arith

pub overflow_add-result-2 : goal.overflow_add-result-2
overflow_add-result-2 t c = let l = length_more c.args.n c.if-n-lt10.false (omega arith) in omega arith

pub returns : goal.returns
returns t c = let l = length_more c.args.n c.if-n-lt10.false (omega arith) in (omega arith, last-digit c.args.out.now _ c.args.at _ c.args.n c.if-n-lt10.false (omega arith) c.put_decimal-last.ensures.1 c.put_decimal-last.ensures.0 (omega arith))
