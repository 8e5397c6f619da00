use Rattle.base.proofs.Results.{passed_on}
use Prim.Native.Nat.{◌+◌, ◌≤◌}
use mathlib.Core.Path.{refl, subst, sym, ◌∙◌}
use native.Mathlib.Omega.{arith}
use lib.ListN.{length}
use Rattle.table.specs.Table.{row_count, offset_of}
use Rattle.tx3g_stock.proofs.Rows.{rows_few, row_ends, row_next, row-bytes, row_fine}
use Rattle.tx3g_convert.specs.Terms.{MeasuredIs}
use Rattle.tx3g_convert.proofs.States.{first-stands, last-stands, turn_low, taken-on, taken-off}
use Rattle.tx3g_convert.proofs.take_samples.Goals as goal

pub loop-i-init : goal.loop-i-init
unfolding offset_of
loop-i-init c = (refl, c.requires.3, first-stands _ _ _ _)

pub overflow_add-end : goal.overflow_add-end
unfolding row_count
overflow_add-end c =
    let ends : c.loop-i.at + c.size_at.result ≤ length c.args.samples.now = row_ends _ _ _ c.requires.2 _ _ _ (omega arith) c.loop-i.invariant.0 c.size_at.ensures.0 in
    omega (arith, ends)

pub slice_bounds-take_sample-end : goal.slice_bounds-take_sample-end
unfolding row_count
slice_bounds-take_sample-end c =
    let ends : c.loop-i.at + c.size_at.result ≤ length c.args.samples.now = row_ends _ _ _ c.requires.2 _ _ _ (omega arith) c.loop-i.invariant.0 c.size_at.ensures.0 in
    omega (arith, ends)

pub take_sample-requires : goal.take_sample-requires
unfolding row_count
take_sample-requires c =
    let p = c.requires in
    let l = c.loop-i.invariant in
    let d = c.duration_at-duration.ensures in
    (p.0, turn_low _ _ _ _ _ (omega arith) _ l.2 _ d.0 d.1 (omega (arith, rows_few _ _ _ p.2)), p.1, row_fine _ _ _ p.2 _ _ _ (omega arith) l.0 c.size_at.ensures.0, l.1)

pub shape_of-buf-in_err-state : goal.shape_of-buf-in_err-state
shape_of-buf-in_err-state c = c.take_sample.auto.buf ∙ c.loop-i.invariant.1 ∙ sym c.requires.3

pub returns-in_err-state : goal.returns-in_err-state
unfolding row_count
returns-in_err-state c =
    let l = c.loop-i.invariant in
    subst (MeasuredIs c.args.scale c.args.e.now c.args.table.now c.args.samples.now) (sym (passed_on _ _ c.from_residual.ensures)) (taken-off _ _ _ _ _ (omega arith) _ l.2 _ _ (row-bytes _ _ _ c.requires.2 _ _ _ (omega arith) l.0 c.size_at.ensures.0) c.duration_at-duration.ensures.0 _ c.take_sample.ensures _ c.in_err-state.was)

pub loop-i-preserved : goal.loop-i-preserved
unfolding row_count
loop-i-preserved c =
    let l = c.loop-i.invariant in
    let f = c.requires.2 in
    let z = c.size_at.ensures.0 in
    let d = c.duration_at-duration.ensures in (
      row_next _ _ _ f _ _ _ (omega arith) l.0 z,
      c.take_sample.auto.buf ∙ l.1,
      taken-on _ _ _ _ _ (omega arith) _ l.2 _ _ (row-bytes _ _ _ f _ _ _ (omega arith) l.0 z) d.0 _ c.take_sample.ensures d.1 _ c.in_ok-state.was,
    )

pub shape_of-buf : goal.shape_of-buf
shape_of-buf c = c.loop-i.invariant.1 ∙ sym c.requires.3

pub returns : goal.returns
unfolding row_count
returns c = let l = c.loop-i.invariant in last-stands _ _ _ _ _ _ l.2 (omega arith) (omega (arith, rows_few _ _ _ c.requires.2))
