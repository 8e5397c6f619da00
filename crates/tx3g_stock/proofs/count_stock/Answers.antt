use Prim.Native.Nat.{◌+◌, ◌≤◌}
use mathlib.Core.Path.{refl, subst⁻¹}
use native.Mathlib.Omega.{arith}
use lib.ListN.{length}
use Rattle.table.specs.Table.{row_count, offset_of}
use Rattle.tx3g_stock.specs.Terms.{AtMost}
use Rattle.tx3g_stock.proofs.Rows.{row_ends, row_next, row-bytes, row-long, counts-few, counts-none, counts-more, counts_all}
use Rattle.tx3g_stock.proofs.count_stock.Goals as goal

pub loop-i-init : goal.loop-i-init
unfolding offset_of
loop-i-init c = (refl, counts-none _ _)

pub overflow_add-end : goal.overflow_add-end
unfolding row_count
overflow_add-end c =
    let ends : c.loop-i.at + c.size_at.result ≤ length c.args.samples.now = row_ends _ _ _ c.requires.1 _ _ _ (omega arith) c.loop-i.invariant.0 c.size_at.ensures.0 in
    omega (arith, ends)

pub slice_bounds-count_boxes-end : goal.slice_bounds-count_boxes-end
unfolding row_count
slice_bounds-count_boxes-end c =
    let ends : c.loop-i.at + c.size_at.result ≤ length c.args.samples.now = row_ends _ _ _ c.requires.1 _ _ _ (omega arith) c.loop-i.invariant.0 c.size_at.ensures.0 in
    omega (arith, ends)

pub count_boxes-counts-requires : goal.count_boxes-counts-requires
unfolding row_count
count_boxes-counts-requires c =
    let f = c.requires.1 in
    let l = c.loop-i.invariant in
    (row-long _ _ _ f _ _ _ (omega arith) l.0 c.size_at.ensures.0, subst⁻¹ (AtMost 9223372036854775807) l.1 (counts-few _ _ _ f _ _ (omega arith) (omega arith)))

pub loop-i-preserved : goal.loop-i-preserved
unfolding row_count
loop-i-preserved c =
    let f = c.requires.1 in
    let l = c.loop-i.invariant in
    let z = c.size_at.ensures.0 in
    (row_next _ _ _ f _ _ _ (omega arith) l.0 z, counts-more _ _ _ _ _ _ l.1 (row-bytes _ _ _ f _ _ _ (omega arith) l.0 z) c.count_boxes-counts.ensures)

pub returns : goal.returns
unfolding row_count
returns c = counts_all _ _ _ _ c.loop-i.invariant.1 (omega arith)
