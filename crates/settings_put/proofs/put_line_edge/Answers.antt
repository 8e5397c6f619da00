-- `settings_put::put_line_edge` meets its contract, value by value.
use native.Mathlib.Omega.{arith}
use Rattle.base.proofs.Over.{wrote-nil}
use Rattle.settings_put.proofs.put_line_edge.Goals as goal

pub returns-in-Start : goal.returns-in-Start
returns-in-Start c = rw c.in-Start.is (omega arith, wrote-nil _ _, omega arith)

pub returns-in-Center : goal.returns-in-Center
returns-in-Center c = let e = c.put_text.ensures in rw c.in-Center.is (e.0, e.1, omega (arith, e.0))

pub returns-in-End : goal.returns-in-End
returns-in-End c = let e = c.put_text-in-End.ensures in rw c.in-End.is (e.0, e.1, omega (arith, e.0))
