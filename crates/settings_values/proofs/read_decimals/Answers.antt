-- By the number of bytes.
use borrow.Author.Tests.{eq-eqb, ne_eqb}
use Rattle.settings_values.proofs.Laws.{one-is, other-is}
use Rattle.settings_values.proofs.read_decimals.Goals as goal

pub returns-then-s-eq37 : goal.returns-then-s-eq37
returns-then-s-eq37 c = rw (one-is c.args.s.now c.if-n-eq1.true, eq-eqb _ _ c.if-s-eq37.true)

pub returns-then-n-eq1 : goal.returns-then-n-eq1
returns-then-n-eq1 c = rw (one-is c.args.s.now c.if-n-eq1.true, ne_eqb _ _ c.if-s-eq37.false)

pub returns : goal.returns
returns c = rw (other-is c.args.s.now c.if-n-eq1.false c.if-n-eq3.false c.if-n-eq4.false)
