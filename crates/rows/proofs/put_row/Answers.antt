use Prim.Native.Nat.{◌*◌}
use native.Mathlib.Omega.{arith}
use native.Mathlib.Numerals.{towards_suc}
use lib.ListN.{length-set}
use Rattle.base.proofs.Over.{sets-wrote}
use Rattle.rows.specs.Table.{numbers_of}
use Rattle.rows.proofs.put_row.Goals as goal

pub returns : goal.returns
unfolding numbers_of
returns c = rw (← sets-wrote c.args.tab.now (c.args.i * 9) (numbers_of c.args.row) (omega arith)) (simp towards_suc)

pub bounds-tab-at-2 : goal.bounds-tab-at-2
bounds-tab-at-2 c = simp length-set (omega arith)

pub bounds-tab-at-3 : goal.bounds-tab-at-3
bounds-tab-at-3 c = simp length-set (omega arith)

pub bounds-tab-at-4 : goal.bounds-tab-at-4
bounds-tab-at-4 c = simp length-set (omega arith)

pub bounds-tab-at-5 : goal.bounds-tab-at-5
bounds-tab-at-5 c = simp length-set (omega arith)

pub bounds-tab-at-6 : goal.bounds-tab-at-6
bounds-tab-at-6 c = simp length-set (omega arith)

pub bounds-tab-at-7 : goal.bounds-tab-at-7
bounds-tab-at-7 c = simp length-set (omega arith)

pub bounds-tab-at-8 : goal.bounds-tab-at-8
bounds-tab-at-8 c = simp length-set (omega arith)

pub bounds-tab-at-9 : goal.bounds-tab-at-9
bounds-tab-at-9 c = simp length-set (omega arith)

pub shape_of-tab : goal.shape_of-tab
shape_of-tab c = simp length-set
