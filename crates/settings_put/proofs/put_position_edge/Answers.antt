-- `settings_put::put_position_edge` meets its contract, value by value.
use native.Mathlib.Omega.{arith}
use Rattle.base.proofs.Over.{wrote-nil}
use Rattle.settings_put.proofs.put_position_edge.Goals as goal

pub returns-in-Auto : goal.returns-in-Auto
returns-in-Auto c = rw c.in-Auto.is (omega arith, wrote-nil _ _, omega arith)

pub returns-in-LineLeft : goal.returns-in-LineLeft
returns-in-LineLeft c = let e = c.put_text.ensures in rw c.in-LineLeft.is (e.0, e.1, omega (arith, e.0))

pub returns-in-Center : goal.returns-in-Center
returns-in-Center c = let e = c.put_text-in-Center.ensures in rw c.in-Center.is (e.0, e.1, omega (arith, e.0))

pub returns-in-LineRight : goal.returns-in-LineRight
returns-in-LineRight c = let e = c.put_text-in-LineRight.ensures in rw c.in-LineRight.is (e.0, e.1, omega (arith, e.0))
