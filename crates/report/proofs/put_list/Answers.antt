-- `report::put_list` meets its contract.
use Prim.Native.Nat.{ℕ}
use mathlib.Core.List.{List}
use native.Mathlib.Omega.{arith}
use mathlib.Core.Path.{ap, ◌∙◌}
use lib.ListN.{length}
use Rattle.base.specs.Over.{over}
use Rattle.report.proofs.Laws.{count_most, text-is}
use Rattle.report.proofs.put_list.Goals as goal

pub put_packed-requires : goal.put_packed-requires
put_packed-requires c = let a = c.args in
    let k = count_most a.scale a.t a.records.now a.pool.now c.pack-answer.result c.pack-answer.ensures.value in
    let l = c.pack-answer.auto.table in
    (omega arith, omega arith, omega arith)

pub returns : goal.returns
returns c = let a = c.args in
    let e = text-is a.scale a.t a.records.now a.pool.now c.pack-answer.result _ c.pack-answer.new.table c.pack-answer.ensures.value c.pack-answer.ensures.table_after in
    (c.put_packed.ensures.0 ∙ ap length e, c.put_packed.ensures.1 ∙ ap (λ (x : List ℕ). over x a.out.now) e)
