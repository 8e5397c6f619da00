use Prim.Native.Nat.{ℕ}
use mathlib.Core.Path.{◌≡◌, refl, ap, ◌∙◌}
use lib.ListN.{length}
use Rattle.base.specs.Over.{over}
use Rattle.base.proofs.Over.{over-nil}
use Rattle.listing.specs.Listing.{rows_text}
use Rattle.listing.proofs.Laws.{rows_more, rows-length}
use native.Mathlib.Omega.{arith}
use Rattle.listing.proofs.put_rows.Goals as goal

pub loop-k-init : goal.loop-k-init
unfolding rows_text
loop-k-init c = (omega arith, refl, refl, over-nil c.args.out.now)

pub loop-k-preserved : goal.loop-k-preserved
loop-k-preserved c =
    let l = c.loop-k in
    let a = c.args in
    (omega arith, omega arith, rows-length a.table.now l.at _ l.k l.invariant.2 c.put_row-at.ensures.0, rows_more a.out.now l.out _ a.table.now l.at l.k l.invariant.2 l.invariant.3 c.put_row-at.ensures.2)

pub shape_of-out : goal.shape_of-out
shape_of-out c = c.loop-k.invariant.1

pub returns : goal.returns
returns c =
    let l = c.loop-k in
    let a = c.args in
    let e : l.k ≡ a.count = omega arith in
    (l.invariant.2 ∙ ap (λ (x : ℕ). length (rows_text a.table.now x)) e, l.invariant.3 ∙ ap (λ (x : ℕ). over (rows_text a.table.now x) a.out.now) e)
