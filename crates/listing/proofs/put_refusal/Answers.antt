-- `listing::put_refusal` meets its contract.
use mathlib.Core.Path.{◌≡◌}
use Rattle.listing.proofs.Listing.{refusal-short}
use Rattle.listing.proofs.Laws.{length-refusal, refused-text}
use native.Mathlib.Omega.{arith}
use Rattle.listing.proofs.put_refusal.Goals as goal

pub put_pair-requires : goal.put_pair-requires
put_pair-requires c =
    let e : c.from.result ≡ c.args.number = c.from.ensures in
    rw e (omega (arith, length-refusal c.args.number c.args.place, refusal-short c.args.number c.args.place (omega arith)))

pub returns : goal.returns
returns c =
    let a = c.args in
    let e : c.from.result ≡ a.number = c.from.ensures in
    let l = length-refusal a.number a.place in
    let put = rw e at c.put_pair.ensures in
    (omega (arith, put.0), refused-text a.out.now _ _ a.number a.place c.put_word.ensures put.1 (omega arith))
