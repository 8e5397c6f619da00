-- The number is taken from 0.
use mir.Syntax.{w16, w32}
use mir.Facts.{to_z_pos, to_z-of_z}
use Rattle.settings_values.proofs.Laws.{minus_is, minus-fits}
use native.Mathlib.Omega.{arith}
use Rattle.settings_values.proofs.negative.Goals as goal

pub overflow_sub-result : goal.overflow_sub-result
overflow_sub-result c = rw (to_z_pos w32 {n = c.args.v} (omega (arith, c.requires)), minus_is c.args.v) (minus-fits w32 c.args.v (omega (arith, c.requires)))

pub overflow_cast-result-2 : goal.overflow_cast-result-2
overflow_cast-result-2 c = rw (to_z_pos w32 {n = c.args.v} (omega (arith, c.requires)), minus_is c.args.v, to_z-of_z (minus-fits w32 c.args.v (omega (arith, c.requires)))) (minus-fits w16 c.args.v c.requires)

pub returns : goal.returns
returns c = rw (to_z_pos w32 {n = c.args.v} (omega (arith, c.requires)), minus_is c.args.v, to_z-of_z (minus-fits w32 c.args.v (omega (arith, c.requires)))) (to_z-of_z (minus-fits w16 c.args.v c.requires))
