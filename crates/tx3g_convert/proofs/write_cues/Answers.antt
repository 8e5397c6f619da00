use Prim.Native.Nat.{◌+◌, ◌≤◌}
use mathlib.Core.Path.{refl, sym, ◌∙◌}
use native.Mathlib.Omega.{arith}
use lib.ListN.{length}
use Rattle.table.specs.Table.{row_count, offset_of}
use Rattle.tx3g_stock.proofs.Rows.{rows_few, row_ends, row_next, row-bytes, row_fine}
use Rattle.tx3g_convert.proofs.States.{first-stands, last-stands, turn_low}
use Rattle.tx3g_convert.proofs.Writing.{none_written, all-written, sample-fits, sample-on, sample-written}
use Rattle.tx3g_convert.proofs.write_cues.Goals as goal

pub loop-i-init : goal.loop-i-init
unfolding offset_of
loop-i-init c = (refl, c.requires.1, first-stands _ _ _ _, refl, refl, none_written _ _ _ _)

pub overflow_add-end : goal.overflow_add-end
unfolding row_count
overflow_add-end c =
    let ends : c.loop-i.at + c.size_at.result ≤ length c.args.samples.now = row_ends _ _ _ c.requires.0.track _ _ _ (omega arith) c.loop-i.invariant.0 c.size_at.ensures.0 in
    omega (arith, ends)

pub slice_bounds-write_sample-end : goal.slice_bounds-write_sample-end
unfolding row_count
slice_bounds-write_sample-end c =
    let ends : c.loop-i.at + c.size_at.result ≤ length c.args.samples.now = row_ends _ _ _ c.requires.0.track _ _ _ (omega arith) c.loop-i.invariant.0 c.size_at.ensures.0 in
    omega (arith, ends)

pub write_sample-state-requires : goal.write_sample-state-requires
unfolding row_count
write_sample-state-requires c =
    let p = c.requires.0 in
    let l = c.loop-i.invariant in
    let z = c.size_at.ensures.0 in
    let d = c.duration_at-duration.ensures in (
      p.scaled,
      turn_low _ _ _ _ _ (omega arith) _ l.2 _ d.0 d.1 (omega (arith, rows_few _ _ _ p.track)),
      p.entry,
      row_fine _ _ _ p.track _ _ _ (omega arith) l.0 z,
      l.1,
      sample-fits _ _ _ _ _ (omega arith) _ l.2 p.fine _ _ (row-bytes _ _ _ p.track _ _ _ (omega arith) l.0 z) d.0 _ _ (omega (arith, p.records_fit, l.3)) (omega (arith, p.pool_fits, l.4)),
    )

pub loop-i-preserved : goal.loop-i-preserved
unfolding row_count
loop-i-preserved c =
    let p = c.requires.0 in
    let l = c.loop-i.invariant in
    let z = c.size_at.ensures.0 in
    let d = c.duration_at-duration.ensures in
    let b = row-bytes _ _ _ p.track _ _ _ (omega arith) l.0 z in (
      row_next _ _ _ p.track _ _ _ (omega arith) l.0 z,
      c.write_sample-state.auto.buf ∙ l.1,
      sample-on _ _ _ _ _ (omega arith) _ l.2 p.fine _ _ b d.0 d.1 _ c.write_sample-state.ensures.0,
      c.write_sample-state.auto.records ∙ l.3,
      c.write_sample-state.auto.pool ∙ l.4,
      sample-written _ _ _ _ _ (omega arith) _ l.2 p.fine _ _ b d.0 _ _ _ _ _ _ l.5 _ c.write_sample-state.ensures,
    )

pub shape_of-buf : goal.shape_of-buf
shape_of-buf c = c.loop-i.invariant.1 ∙ sym c.requires.1

pub shape_of-records : goal.shape_of-records
shape_of-records c = c.loop-i.invariant.3

pub shape_of-pool : goal.shape_of-pool
shape_of-pool c = c.loop-i.invariant.4

pub returns : goal.returns
unfolding row_count
returns c =
    let p = c.requires.0 in
    let l = c.loop-i.invariant in
    let w = last-stands _ _ _ _ _ _ l.2 (omega arith) (omega (arith, rows_few _ _ _ p.track)) in
    all-written _ _ _ _ _ _ _ w.counted l.5
