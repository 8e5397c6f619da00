-- A time above 100 hours is answered as 100 hours.
use mathlib.Core.Path.{ap}
use native.Mathlib.Omega.{arith}
use Rattle.timestamps.specs.Timestamp.{Ms}
use Rattle.timestamps.specs.Timestamps.{capped}
use Rattle.timestamps.proofs.capped_ms.Goals as goal

pub returns : goal.returns
unfolding capped
returns c = ap Ms (omega arith)
