-- A digit is from 48 to 57.
use native.Mathlib.Omega.{arith}
use Rattle.timestamps.proofs.Laws.{digit-bounds}
use Rattle.timestamps.proofs.number_of.Goals as goal

pub overflow_sub-result : goal.overflow_sub-result
overflow_sub-result c = let b = digit-bounds _ c.requires in omega (arith, b.0)

pub returns : goal.returns
returns c = let b = digit-bounds _ c.requires in (omega arith, omega (arith, b.1))
