use mathlib.Core.Path.{refl, sym, ◌∙◌, subst⁻¹}
use native.Mathlib.Omega.{arith}
use Rattle.rows.specs.declared.Row.{Row}
use Rattle.vtt_read.specs.Steps.{RowAt}
use Rattle.vtt_read.proofs.Ends.{ready_on}
use Rattle.vtt_read.proofs.Rows.{none-recorded, none-pooled, no_size, records-whole, pool-whole}
use Rattle.vtt_read.proofs.write_rows.Goals as goal

pub loop-k-init : goal.loop-k-init
loop-k-init c = (omega arith, no_size _, c.requires.2, refl, refl, none-recorded _ _, none-pooled _ _)

pub row_at-row-requires : goal.row_at-row-requires
row_at-row-requires c = let p = c.requires in omega (arith, p.0.long, (p.0.rows c.loop-k.k c.loop-k-test.true).few)

pub write_row-size-requires : goal.write_row-size-requires
write_row-size-requires c =
    let p = c.requires in
    let i = c.loop-k.invariant in
    (subst⁻¹ (λ (x : Row). RowAt c.args.s.now x c.loop-k.k) c.row_at-row.ensures (p.0.rows c.loop-k.k c.loop-k-test.true), i.1, i.2, ready_on _ _ _ _ _ i.3 i.4 p.3)

pub loop-k-preserved : goal.loop-k-preserved
loop-k-preserved c =
    let i = c.loop-k.invariant in
    (omega (arith, c.loop-k-test.true), c.write_row-size.ensures.0, c.write_row-size.auto.buf ∙ i.2, c.write_row-size.auto.records ∙ i.3, c.write_row-size.auto.pool ∙ i.4, c.write_row-size.ensures.1 _ i.5, c.write_row-size.ensures.2 _ i.6)

pub shape_of-buf : goal.shape_of-buf
shape_of-buf c = c.loop-k.invariant.2 ∙ sym c.requires.2

pub shape_of-records : goal.shape_of-records
shape_of-records c = c.loop-k.invariant.3

pub shape_of-pool : goal.shape_of-pool
shape_of-pool c = c.loop-k.invariant.4

pub returns : goal.returns
returns c = let i = c.loop-k.invariant in let l = c.requires.1 in (records-whole _ _ _ _ _ c.loop-k-test.false i.0 l i.5, pool-whole _ _ _ _ _ c.loop-k-test.false i.0 l i.6)
