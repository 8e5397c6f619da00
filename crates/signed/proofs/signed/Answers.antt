use Rattle.signed.proofs.Laws.{small_is}
use Rattle.signed.proofs.signed.Goals as goal

pub returns-then-v-half : goal.returns-then-v-half
returns-then-v-half c = small_is c.args.half _ c.requires.0 c.if-v-half.true
