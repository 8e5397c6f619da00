-- `fields::put8` meets its contract: the stores are the bytes of the definition, one after the other.
use mathlib.Core.Path.{refl}
use native.Mathlib.Omega.{arith}
use Rattle.base.proofs.Over.{sets-wrote}
use Rattle.fields.specs.BigEndian.{bytes}
use Rattle.fields.proofs.BigEndian.{length-bytes}
use Rattle.fields.proofs.put8.Goals as goal

pub returns : goal.returns
unfolding bytes
returns c = rw (← sets-wrote c.args.d.now c.args.at (bytes 1 c.args.v) (omega (arith, length-bytes 1 c.args.v))) (refl)
