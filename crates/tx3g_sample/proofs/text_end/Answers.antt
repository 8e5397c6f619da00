-- `tx3g_sample::text_end` meets its contract.
use Rattle.tx3g_sample.specs.Sample.{text_end}
use native.Mathlib.Omega.{arith}
use Rattle.tx3g_sample.proofs.text_end.Goals as goal

pub returns : goal.returns
unfolding text_end
returns c = (rw c.get16.ensures.0, omega arith, omega arith)
