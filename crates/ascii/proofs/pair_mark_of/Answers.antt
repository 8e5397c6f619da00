use Rattle.ascii.proofs.Blocks.{pair-marked}
use Rattle.ascii.proofs.pair_mark_of.Goals as goal

pub returns : goal.returns
returns c = pair-marked _ _ _ _ _ c.mark_of.ensures c.low_mark_of.ensures c.dash_mark_of.ensures
