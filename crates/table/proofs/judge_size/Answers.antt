-- `table::judge_size` meets its contract: each return is the case of `judge_size` that its tests lead to.
use Rattle.table.proofs.Laws.{offset-suc}
use Rattle.table.specs.Table.{offset_of, judge_size}
use lib.ListN.{length}
use native.Mathlib.Omega.{arith}
use Prim.Native.Nat.{suc, ◌<◌, ◌≤◌}
use borrow.Author.Tests.{le-ltb, lt-ltb, ne_eqb}
use Rattle.table.proofs.judge_size.Goals as goal

pub returns-then-size-eq0 : goal.returns-then-size-eq0
unfolding judge_size
returns-then-size-eq0 c = simp (← c.size_at-size.ensures.0, c.if-size-eq0.true, c.refused.ensures)

pub returns-then-samples-at : goal.returns-then-samples-at
unfolding judge_size
returns-then-samples-at c = let a = c.args in
    let o : length a.samples.now < offset_of a.table.now (suc a.i) = omega (arith, offset-suc a.table.now a.i, c.size_at-size.ensures.0) in
    simp (← c.size_at-size.ensures.0, ne_eqb _ _ c.if-size-eq0.false, lt-ltb _ _ o, c.refused-then-samples-at.ensures)

pub returns : goal.returns
unfolding judge_size
returns c = let a = c.args in
    let o : offset_of a.table.now (suc a.i) ≤ length a.samples.now = omega (arith, offset-suc a.table.now a.i, c.size_at-size.ensures.0) in
    simp (← c.size_at-size.ensures.0, ne_eqb _ _ c.if-size-eq0.false, le-ltb _ _ o)
