-- `times::ms_of` meets its contract: the quotient, rounded up.
use native.Mathlib.Omega.{arith}
use Rattle.times.proofs.Laws.{ceil_is}
use Rattle.times.proofs.ms_of.Goals as goal

pub returns : goal.returns
returns c = ceil_is c.args.scale c.args.t _ _ _ c.div_ceil.ensures (omega arith) (omega (arith, c.from.ensures)) c.requires.0
