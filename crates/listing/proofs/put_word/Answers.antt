-- `listing::put_word` meets its contract.
use mathlib.Core.Path.{refl}
use Rattle.base.specs.Over.{wrote}
use Rattle.listing.specs.Listing.{word}
use Rattle.listing.proofs.put_word.Goals as goal

pub returns : goal.returns
unfolding word wrote
returns c = rw c.copy_from_slice.ensures.after refl
