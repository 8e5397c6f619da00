use Rattle.cuts.proofs.Laws.{below_next}
use Rattle.cuts.specs.Cuts.{end_tick}
use mathlib.Core.Path.{◌≡◌}
use Prim.Native.Nat.{◌≤◌}
use native.Mathlib.Omega.{arith}
use Rattle.cuts.proofs.skip_ended.Goals as goal

pub loop-i-init : goal.loop-i-init
loop-i-init c = c.requires.ended

pub returns-then-b-end_tick : goal.returns-then-b-end_tick
returns-then-b-end_tick c = (omega arith, c.loop-i.invariant)

pub loop-i-preserved : goal.loop-i-preserved
loop-i-preserved c = below_next (λ j. end_tick c.args.scale c.args.records.now j ≤ c.args.b) _ c.loop-i.invariant (omega (arith, c.end_tick.ensures, c.if-b-end_tick.false))

pub returns : goal.returns
returns c = let e : c.loop-i.i ≡ c.args.n = omega arith in (omega arith, rw e at c.loop-i.invariant)
