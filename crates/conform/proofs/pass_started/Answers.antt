use Rattle.conform.proofs.Laws.{started-more, later-here, later-none}
use Rattle.records.specs.Records.{count}
use lib.ListN.{length}
use mathlib.Core.Path.{◌≡◌}
use Prim.Native.Nat.{◌/◌}
use native.Mathlib.Omega.{arith}
use Rattle.conform.proofs.pass_started.Goals as goal

pub loop-i-init : goal.loop-i-init
loop-i-init c = c.requires.1

pub start_tick-requires : goal.start_tick-requires
unfolding count
start_tick-requires c = omega arith

pub returns-then-e-start_tick : goal.returns-then-e-start_tick
unfolding count
returns-then-e-start_tick c = (omega arith, c.loop-i.invariant, later-here _ _ _ _ c.requires.2 (rw (← c.start_tick.ensures) c.if-e-start_tick.true))

pub loop-i-preserved : goal.loop-i-preserved
unfolding count
loop-i-preserved c = started-more _ _ _ _ c.loop-i.invariant (rw (← c.start_tick.ensures) c.if-e-start_tick.false)

pub returns : goal.returns
unfolding count
returns c = let e : c.loop-i.i ≡ length c.args.records.now / 24 = omega arith in
    (omega arith, rw e at c.loop-i.invariant, later-none _ _ _ _ (omega arith))
