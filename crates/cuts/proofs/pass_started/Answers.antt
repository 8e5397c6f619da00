use Rattle.cuts.proofs.Laws.{below_next}
use Rattle.cuts.specs.Cuts.{start_tick}
use mathlib.Core.Path.{◌≡◌}
use Prim.Native.Nat.{◌≤◌}
use native.Mathlib.Omega.{arith}
use Rattle.cuts.proofs.pass_started.Goals as goal

pub loop-i-init : goal.loop-i-init
loop-i-init c = c.requires.started

pub returns-then-b-start_tick : goal.returns-then-b-start_tick
returns-then-b-start_tick c = record { stops = (omega arith, omega arith, λ l. omega (arith, c.start_tick.ensures, c.if-b-start_tick.true)); all_started = c.loop-i.invariant }

pub loop-i-preserved : goal.loop-i-preserved
loop-i-preserved c = below_next (λ j. start_tick c.args.scale c.args.records.now j ≤ c.args.b) _ c.loop-i.invariant (omega (arith, c.start_tick.ensures, c.if-b-start_tick.false))

pub returns : goal.returns
returns c = let e : c.loop-i.i ≡ c.args.n = omega arith in
    record { stops = (omega arith, omega arith, λ l. absurd (omega arith)); all_started = rw e at c.loop-i.invariant }
