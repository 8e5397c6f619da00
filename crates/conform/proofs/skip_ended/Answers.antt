use Rattle.conform.proofs.Laws.{ended-more}
use Rattle.records.specs.Records.{count}
use lib.ListN.{length}
use mathlib.Core.Path.{◌≡◌}
use Prim.Native.Nat.{◌/◌}
use native.Mathlib.Omega.{arith}
use Rattle.conform.proofs.skip_ended.Goals as goal

pub loop-i-init : goal.loop-i-init
loop-i-init c = c.requires.1

pub end_tick-requires : goal.end_tick-requires
unfolding count
end_tick-requires c = omega arith

pub returns-then-b-end_tick : goal.returns-then-b-end_tick
unfolding count
returns-then-b-end_tick c = (omega arith, c.loop-i.invariant)

pub loop-i-preserved : goal.loop-i-preserved
unfolding count
loop-i-preserved c = ended-more _ _ _ _ c.loop-i.invariant (rw (← c.end_tick.ensures) c.if-b-end_tick.false)

pub returns : goal.returns
unfolding count
returns c = let e : c.loop-i.i ≡ length c.args.records.now / 24 = omega arith in (omega arith, rw e at c.loop-i.invariant)
