use mathlib.Core.Path.{sym, ◌∙◌}
use native.Mathlib.Omega.{arith}
use Rattle.cues.proofs.Laws.{in-pool}
use Rattle.cues.proofs.judge_record.Goals as goal

pub judge_pooled-requires : goal.judge_pooled-requires
judge_pooled-requires c = (omega arith, in-pool _ _ _ (sym c.past_pool.ensures ∙ c.if-past_pool.false))
