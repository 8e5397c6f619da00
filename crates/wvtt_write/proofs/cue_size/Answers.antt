-- `wvtt_write::cue_size` meets its contract: the sizes add up.
use Rattle.wvtt_write.specs.Written.{cue_size}
use native.Mathlib.Omega.{arith}
use Rattle.wvtt_write.proofs.cue_size.Goals as goal

pub returns : goal.returns
unfolding cue_size
returns c = omega arith
