use mathlib.Core.Path.{◌∙◌, ap}
use native.Mathlib.Omega.{arith}
use Rattle.signed.specs.Signed.{signed8}
use Rattle.signed.proofs.Laws.{kept8}
use Rattle.signed.proofs.get_signed8.Goals as goal

pub returns : goal.returns
returns c = (kept8 _ _ c.signed.ensures c.get8.ensures.1 ∙ ap signed8 c.get8.ensures.0, omega (arith, c.get8.ensures.0, c.get8.ensures.1))
