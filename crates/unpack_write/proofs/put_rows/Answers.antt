use Prim.Native.Nat.{ℕ, ◌+◌, ◌<◌}
use native.Mathlib.Nat.{le_antisymm}
use mathlib.Core.Path.{◌≡◌, refl, sym, ap, ◌∙◌, subst}
use lib.ListN.{length}
use Rattle.base.specs.Over.{over}
use Rattle.base.proofs.Over.{over-nil}
use Rattle.rows.specs.Table.{cue_at, known}
use Rattle.rows.proofs.Laws.{known_at}
use Rattle.records_write.specs.Records.{records_to, pool_to}
use Rattle.records_write.proofs.Laws.{record-put, texts-put}
use Rattle.unpack_write.specs.Rows.{Ready, InTime, row_size, size_to}
use Rattle.unpack_write.proofs.Laws.{size-more, size-grows, size-bound, length-pool}
use native.Mathlib.Omega.{arith}
use Rattle.unpack_write.proofs.put_rows.Goals as goal

pub loop-i-init : goal.loop-i-init
unfolding size_to records_to pool_to
loop-i-init c = (omega arith, refl, over-nil _, over-nil _, refl, refl)

pub write_row-at-requires : goal.write_row-at-requires
write_row-at-requires c = let l = c.loop-i in let p = c.requires in let a = c.args in
    let h : l.i < a.n = omega arith in
    let row = c.row_at-row.ensures in (
      p.0,
      subst (Ready (length a.samples.now)) (sym row) (p.3 l.i h),
      subst (InTime a.scale) (sym row) (p.4 l.i h),
      omega (arith, p.5, l.invariant.4),
      omega (arith, l.invariant.1, l.invariant.5, p.6, size-more a.tab.now l.i _ (ap row_size row), size-grows a.tab.now (l.i + 1) a.n (omega arith)),
      omega (arith, l.invariant.1, p.1, size-bound a.tab.now l.i (λ j q. (p.3 j (omega arith)).short)),
    )

pub loop-i-preserved : goal.loop-i-preserved
loop-i-preserved c = let l = c.loop-i in let p = c.requires in let a = c.args in
    let row = c.row_at-row.ensures in
    let put = c.write_row-at.ensures in
    let cs = known a.samples.now a.tab.now a.n in
    let e = known_at a.samples.now a.tab.now a.n l.i (omega arith) ∙ ap (cue_at a.samples.now) (sym row) in
    let o : l.at ≡ length (pool_to cs l.i) = l.invariant.1 ∙ sym (length-pool a.samples.now a.tab.now a.n (λ j q. (p.3 j q).placed) l.i l.invariant.0) in (
      omega arith,
      put.0 ∙ ap (λ (x : ℕ). x + row_size c.row_at-row.result) l.invariant.1 ∙ size-more a.tab.now l.i _ (ap row_size row),
      record-put cs l.i l.at _ a.records.now l.records _ e o a.scale l.invariant.2 put.1,
      texts-put cs l.i l.at _ a.pool.now l.pool _ e o l.invariant.3 put.2,
      omega arith,
      omega arith,
    )

pub returns : goal.returns
returns c = let l = c.loop-i in let a = c.args in
    let e = le_antisymm l.invariant.0 (omega arith) in
    let cs = known a.samples.now a.tab.now a.n in
    (l.invariant.2 ∙ ap (λ (k : ℕ). over (records_to a.scale cs k) a.records.now) e, l.invariant.3 ∙ ap (λ (k : ℕ). over (pool_to cs k) a.pool.now) e)
