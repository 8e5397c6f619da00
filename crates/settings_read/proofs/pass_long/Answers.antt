use mathlib.Core.Path.{refl, ◌∙◌}
use native.Mathlib.Omega.{arith}
use Rattle.settings_read.proofs.pass_long.Goals as goal

pub loop-i-init : goal.loop-i-init
loop-i-init c = (c.requires, refl)

pub is_long-requires : goal.is_long-requires
is_long-requires c = omega (arith, c.loop-i-test.true, c.loop-i.invariant.0)

pub pass_run-requires : goal.pass_run-requires
pass_run-requires c = c.loop-i.invariant.0

pub returns-then-not-is_long : goal.returns-then-not-is_long
returns-then-not-is_long c = (c.pass_run.ensures.0 ∙ c.loop-i.invariant.1, c.pass_run.ensures.1)

pub overflow_add-i : goal.overflow_add-i
overflow_add-i c = record { fits = omega (arith, c.loop-i-test.true, c.loop-i.invariant.0, c.well_formed.0.0) }

pub loop-i-smaller : goal.loop-i-smaller
loop-i-smaller c = omega (arith, c.loop-i-test.true, c.loop-i.invariant.0)

pub loop-i-preserved : goal.loop-i-preserved
loop-i-preserved c = (omega (arith, c.loop-i-test.true, c.loop-i.invariant.0), c.is_long.ensures c.if-not-is_long.false ∙ c.loop-i.invariant.1)

pub pass_run-requires-2 : goal.pass_run-requires-2
pass_run-requires-2 c = c.loop-i.invariant.0

pub returns : goal.returns
returns c = (c.pass_run-2.ensures.0 ∙ c.loop-i.invariant.1, c.pass_run-2.ensures.1)
