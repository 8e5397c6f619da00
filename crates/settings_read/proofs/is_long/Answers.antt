use mathlib.Core.Path.{◌≡◌, ap}
use native.Mathlib.Nat.{add-zero}
use borrow.Author.Tests.{eqb-true}
use Rattle.vtt_timing.specs.Read.{in_run}
use Rattle.settings_read.specs.Terms.{runs_to}
use Rattle.settings_read.proofs.Laws.{both-none, run_on}
use native.Mathlib.Omega.{arith}
use Rattle.settings_read.proofs.is_long.Goals as goal

pub loop-k-init : goal.loop-k-init
loop-k-init c = (omega arith, λ e. ap (runs_to (in_run c.args.run) c.args.s.now) (add-zero c.args.at))

pub overflow_add-at : goal.overflow_add-at
overflow_add-at c = record { fits = omega (arith, c.requires, c.well_formed.0.0, c.loop-k.invariant.0, c.loop-k-test.true) }

pub bounds-s-at : goal.bounds-s-at
bounds-s-at c = omega (arith, c.requires, c.loop-k-test.true)

pub loop-k-smaller : goal.loop-k-smaller
loop-k-smaller c = omega (arith, c.loop-k-test.true)

pub loop-k-preserved : goal.loop-k-preserved
loop-k-preserved c = (omega (arith, c.loop-k-test.true), λ e. let z = both-none _ _ e in run_on (in_run c.args.run) c.args.s.now c.args.at c.loop-k.k (omega (arith, c.requires, c.loop-k-test.true)) (c.out_of-x.ensures z.1) (c.loop-k.invariant.1 z.0))

pub returns : goal.returns
returns c = λ e. let k : c.loop-k.k ≡ 64 = omega (arith, c.loop-k.invariant.0, c.loop-k-test.false) in rw (← k) (c.loop-k.invariant.1 (eqb-true _ _ e))
