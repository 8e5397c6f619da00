use mathlib.Core.Path.{◌∙◌, ap}
use native.Mathlib.Omega.{arith}
use Rattle.signed.specs.Signed.{signed16}
use Rattle.signed.proofs.Laws.{kept16}
use Rattle.signed.proofs.get_signed16.Goals as goal

pub returns : goal.returns
returns c = (kept16 _ _ c.signed.ensures c.get16.ensures.1 ∙ ap signed16 c.get16.ensures.0, omega (arith, c.get16.ensures.0, c.get16.ensures.1))
