-- Times, settings, line end.
use mathlib.Core.Path.{◌∙◌}
use native.Mathlib.Omega.{arith}
use lib.ListN.{length-set}
use Rattle.vtt_write.proofs.Laws.{timing-written}
use Rattle.vtt_write.proofs.put_timing.Goals as goal

pub shape_of-out : goal.shape_of-out
shape_of-out c = simp length-set (c.put_settings-behind.auto.out ∙ c.put_times.auto.out)

pub returns : goal.returns
returns c = timing-written c.args.out.now _ _ c.args.settings.now c.args.at _ _ _ (omega arith) c.put_times.ensures c.put_settings-behind.ensures.1 c.put_settings-behind.ensures.0
