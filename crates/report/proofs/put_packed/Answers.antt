-- `report::put_packed` meets its contract.
use native.Mathlib.Omega.{arith}
use mathlib.Core.Path.{ap}
use Rattle.pack.specs.Writing.{count_of}
use Rattle.report.proofs.put_packed.Goals as goal

pub put_rows-requires : goal.put_rows-requires
put_rows-requires c = let e = ap count_of c.in-Ok.is in (omega arith, omega arith)

pub returns-in-Ok : goal.returns-in-Ok
returns-in-Ok c = rw c.in-Ok.is c.put_rows.ensures

pub returns-in-Err : goal.returns-in-Err
returns-in-Err c = rw c.in-Err.is c.put_refusal.ensures
