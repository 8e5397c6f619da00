use Rattle.characters.specs.Characters.{is_low}
use Rattle.characters.proofs.is_low.Goals as goal

pub returns : goal.returns
unfolding is_low
returns c = c.is_within.ensures
