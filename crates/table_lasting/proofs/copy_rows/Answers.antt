use native.Mathlib.Omega.{arith}
use Rattle.table.specs.Table.{row_count}
use Rattle.table_lasting.proofs.Turns.{copied_none, copied-long, copied-inside, copied-dropped, run_inside, run_room, copied-run, copied_all}
use Rattle.table_lasting.proofs.copy_rows.Goals as goal

pub loop-i-init : goal.loop-i-init
loop-i-init c = copied_none _ _ _ _

pub find_run-run-requires : goal.find_run-run-requires
unfolding row_count
find_run-run-requires c = (omega arith, omega (arith, c.requires.laid.used))

pub overflow_sub-n : goal.overflow_sub-n
overflow_sub-n c = c.find_run-run.ensures.run.goes

pub overflow_mul-kept : goal.overflow_mul-kept
overflow_mul-kept c = omega (arith, (run_room _ _ _ _ c.requires _ _ _ _ _ _ c.loop-i.invariant (λ j. (c.type_inv.table j).fits) _ _ c.find_run-run.ensures.run).0, (copied-long _ _ _ _ c.requires _ _ _ _ _ _ c.loop-i.invariant).0)

pub overflow_mul-i : goal.overflow_mul-i
overflow_mul-i c = omega (arith, (run_inside _ _ _ _ c.requires _ _ _ _ _ _ c.loop-i.invariant (λ j. (c.type_inv.table j).fits) _ _ c.find_run-run.ensures.run).0)

pub overflow_mul-n : goal.overflow_mul-n
overflow_mul-n c = omega (arith, (run_inside _ _ _ _ c.requires _ _ _ _ _ _ c.loop-i.invariant (λ j. (c.type_inv.table j).fits) _ _ c.find_run-run.ensures.run).0)

pub copy_run-requires : goal.copy_run-requires
copy_run-requires c = ((run_room _ _ _ _ c.requires _ _ _ _ _ _ c.loop-i.invariant (λ j. (c.type_inv.table j).fits) _ _ c.find_run-run.ensures.run).0, (run_inside _ _ _ _ c.requires _ _ _ _ _ _ c.loop-i.invariant (λ j. (c.type_inv.table j).fits) _ _ c.find_run-run.ensures.run).0)

pub copy_run-requires-in-loop-i : goal.copy_run-requires-in-loop-i
copy_run-requires-in-loop-i c = ((run_room _ _ _ _ c.requires _ _ _ _ _ _ c.loop-i.invariant (λ j. (c.type_inv.table j).fits) _ _ c.find_run-run.ensures.run).1, (run_inside _ _ _ _ c.requires _ _ _ _ _ _ c.loop-i.invariant (λ j. (c.type_inv.table j).fits) _ _ c.find_run-run.ensures.run).1)

pub overflow_add-kept : goal.overflow_add-kept
overflow_add-kept c = omega (arith, (run_room _ _ _ _ c.requires _ _ _ _ _ _ c.loop-i.invariant (λ j. (c.type_inv.table j).fits) _ _ c.find_run-run.ensures.run).0, (copied-long _ _ _ _ c.requires _ _ _ _ _ _ c.loop-i.invariant).0)

pub overflow_add-to : goal.overflow_add-to
overflow_add-to c = omega (arith, (run_room _ _ _ _ c.requires _ _ _ _ _ _ c.loop-i.invariant (λ j. (c.type_inv.table j).fits) _ _ c.find_run-run.ensures.run).1, (copied-long _ _ _ _ c.requires _ _ _ _ _ _ c.loop-i.invariant).1)

pub overflow_add-at : goal.overflow_add-at
overflow_add-at c = omega (arith, (run_inside _ _ _ _ c.requires _ _ _ _ _ _ c.loop-i.invariant (λ j. (c.type_inv.table j).fits) _ _ c.find_run-run.ensures.run).1)

pub size_at-at-requires : goal.size_at-at-requires
size_at-at-requires c = omega arith

pub overflow_add-at-then-i-count : goal.overflow_add-at-then-i-count
unfolding row_count
overflow_add-at-then-i-count c = let w = copied-run _ _ _ _ c.requires _ _ _ _ _ _ c.loop-i.invariant (λ j. (c.type_inv.table j).fits) _ _ c.find_run-run.ensures.run _ _ c.copy_run.ensures c.copy_run-in-loop-i.ensures in
    omega (arith, copied-inside _ _ _ _ c.requires _ _ _ _ _ _ w c.if-i-count.true _ c.size_at-at.ensures.0)

pub overflow_add-i : goal.overflow_add-i
overflow_add-i c = omega arith

pub loop-i-smaller-then-i-count : goal.loop-i-smaller-then-i-count
loop-i-smaller-then-i-count c = omega (arith, c.find_run-run.ensures.run.goes)

pub loop-i-preserved-then-i-count : goal.loop-i-preserved-then-i-count
unfolding row_count
loop-i-preserved-then-i-count c = let w = copied-run _ _ _ _ c.requires _ _ _ _ _ _ c.loop-i.invariant (λ j. (c.type_inv.table j).fits) _ _ c.find_run-run.ensures.run _ _ c.copy_run.ensures c.copy_run-in-loop-i.ensures in
    copied-dropped _ _ _ _ c.requires _ _ _ _ _ _ w c.if-i-count.true _ c.size_at-at.ensures.0 (c.find_run-run.ensures.stops c.if-i-count.true)

pub loop-i-smaller : goal.loop-i-smaller
loop-i-smaller c = omega (arith, c.find_run-run.ensures.run.goes)

pub loop-i-preserved : goal.loop-i-preserved
loop-i-preserved c = copied-run _ _ _ _ c.requires _ _ _ _ _ _ c.loop-i.invariant (λ j. (c.type_inv.table j).fits) _ _ c.find_run-run.ensures.run _ _ c.copy_run.ensures c.copy_run-in-loop-i.ensures

pub shape_of-rows : goal.shape_of-rows
shape_of-rows c = (copied-long _ _ _ _ c.requires _ _ _ _ _ _ c.loop-i.invariant).0

pub shape_of-content : goal.shape_of-content
shape_of-content c = (copied-long _ _ _ _ c.requires _ _ _ _ _ _ c.loop-i.invariant).1

pub returns : goal.returns
unfolding row_count
returns c = let w = copied_all _ _ _ _ c.requires _ _ _ _ _ _ c.loop-i.invariant c.loop-i-test.false in record { rows_after = w.0; content_after = w.1 }
