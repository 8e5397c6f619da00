-- `settings_put::put_fraction` meets its contract: no byte, two or three.
use lib.ListN.{length-set}
use native.Mathlib.Omega.{arith}
use Rattle.settings_put.proofs.Laws.{fraction-none, fraction-tenths, fraction-hundredths}
use Rattle.settings_put.proofs.put_fraction.Goals as goal

pub returns-then-h-eq0 : goal.returns-then-h-eq0
returns-then-h-eq0 c = let a = c.args in let f = fraction-none a.out.now a.at a.h c.if-h-eq0.true in (f.0, f.1, omega arith)

pub returns-then-h-eq0-2 : goal.returns-then-h-eq0-2
returns-then-h-eq0-2 c = let a = c.args in let f = fraction-tenths a.out.now a.at a.h c.if-h-eq0.false c.if-h-eq0-2.true (omega arith) in (f.0, f.1, omega arith)

pub returns : goal.returns
returns c = let a = c.args in let f = fraction-hundredths a.out.now a.at a.h c.if-h-eq0.false c.if-h-eq0-2.false (omega arith) in (f.0, f.1, omega arith)

pub bounds-out-at-2 : goal.bounds-out-at-2
bounds-out-at-2 c = simp length-set (omega arith)

pub bounds-out-at-3 : goal.bounds-out-at-3
bounds-out-at-3 c = simp length-set (omega arith)
