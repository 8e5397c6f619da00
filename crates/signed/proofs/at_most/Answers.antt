-- `signed::at_most` meets its contract: the order of ranks is that of the signed numbers.
use Rattle.signed.proofs.Laws.{order_is}
use Rattle.signed.specs.Rank.{shift16}
use lib.Dec.{leb}
use mathlib.Core.Path.{sym, ap, ap₂, ◌∙◌}
use Rattle.signed.proofs.at_most.Goals as goal

pub returns : goal.returns
returns c = let a = c.get16.ensures in
    let b = c.get16-2.ensures in
    ap₂ leb (c.rank.ensures.0 ∙ ap shift16 a.0) (c.rank-2.ensures.0 ∙ ap shift16 b.0) ∙ sym (order_is _ _ (rw a.0 at a.1) (rw b.0 at b.1))
