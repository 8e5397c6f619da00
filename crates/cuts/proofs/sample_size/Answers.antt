use Rattle.cuts.proofs.Laws.{not-empty}
use native.Mathlib.Omega.{arith}
use Rattle.cuts.proofs.sample_size.Goals as goal

pub returns-else-cues-eq0 : goal.returns-else-cues-eq0
returns-else-cues-eq0 c = (not-empty _ c.if-cues-eq0.false, omega arith)
