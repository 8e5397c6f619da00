-- `settings_put::put_line_place` meets its contract, case by case.
use Rattle.settings_put.proofs.Laws.{read16}
use native.Mathlib.Omega.{arith}
use Rattle.base.proofs.Over.{wrote-nil}
use Rattle.settings_put.proofs.put_line_place.Goals as goal

pub returns-in-Auto : goal.returns-in-Auto
returns-in-Auto c = rw c.in-Auto.is (omega arith, wrote-nil _ _, omega arith)

pub returns-in-Number : goal.returns-in-Number
returns-in-Number c = let e = c.put_number.ensures in
    rw (c.in-Number.is, ← read16 c.in-Number.n (record { sfits = c.in-Number.known_told-1-own.given.0.1 })) (e.0, e.1, omega (arith, e.2))

pub returns-in-Percent : goal.returns-in-Percent
returns-in-Percent c = rw c.in-Percent.is c.put_percent.ensures
