-- `cues::past_pool` meets its contract, by the definition.
use Rattle.cues.specs.Judgement.{past_pool}
use Rattle.cues.proofs.past_pool.Goals as goal

pub returns : goal.returns
unfolding past_pool
returns c = simp (← c.texts_end.ensures.0)
