-- `listing::put_row` meets its contract.
use mathlib.Core.List.{List}
use Prim.Native.Nat.{ℕ, ◌+◌}
use mathlib.Core.Path.{◌≡◌, ap, ap₂, ◌∙◌}
use lib.ListN.{length}
use Rattle.base.specs.Over.{wrote}
use Rattle.listing.specs.Listing.{pair_text, row_text}
use Rattle.listing.proofs.Listing.{pair-short}
use native.Mathlib.Omega.{arith}
use Rattle.listing.proofs.put_row.Goals as goal

pub put_pair-requires : goal.put_pair-requires
put_pair-requires c = omega (arith, pair-short c.from-duration.result c.from-size.result (omega (arith, c.from-duration.ensures, c.get32.ensures.1)) (omega (arith, c.from-size.ensures, c.get32-2.ensures.1)))

pub returns : goal.returns
unfolding row_text
returns c =
    let d : c.from-duration.result ≡ c.get32.result = c.from-duration.ensures in
    let n : c.from-size.result ≡ c.get32-2.result = c.from-size.ensures in
    let s = pair-short c.from-duration.result c.from-size.result (omega (arith, c.get32.ensures.1)) (omega (arith, c.get32-2.ensures.1)) in
    let e : pair_text c.from-duration.result c.from-size.result ≡ row_text c.args.table.now c.args.k = ap₂ pair_text (d ∙ c.get32.ensures.0) (n ∙ c.get32-2.ensures.0) in
    (c.put_pair.ensures.0 ∙ ap (λ (x : List ℕ). c.args.at + length x) e, omega arith, c.put_pair.ensures.1 ∙ ap (wrote c.args.out.now c.args.at) e)
