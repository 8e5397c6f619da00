use Prim.Native.Nat.{◌+◌}
use native.Mathlib.Omega.{arith}
use Rattle.profile.specs.Machine.{clock}
use Rattle.profile_times.proofs.Clock.{none-reached, reached-on, reached-all}
use Rattle.profile_times.proofs.time_at.Goals as goal

pub loop-k-init : goal.loop-k-init
loop-k-init c = none-reached c.requires.0 c.requires.1

pub overflow_sub-time : goal.overflow_sub-time
unfolding clock
overflow_sub-time c = (c.requires.1 c.loop-k.k (omega arith)).0

pub overflow_cast-time : goal.overflow_cast-time
overflow_cast-time c = omega (arith, (c.type_inv.s (c.args.at + c.loop-k.k)).fits)

pub overflow_mul-time : goal.overflow_mul-time
unfolding clock
overflow_mul-time c = omega (arith, (reached-on c.requires.0 c.requires.1 c.loop-k.invariant (omega arith) 0 (omega arith)).fits)

pub overflow_add-time-in-loop-k : goal.overflow_add-time-in-loop-k
unfolding clock
overflow_add-time-in-loop-k c = omega (arith, (reached-on c.requires.0 c.requires.1 c.loop-k.invariant (omega arith) 0 (omega arith)).fits)

pub loop-k-preserved : goal.loop-k-preserved
unfolding clock
loop-k-preserved c = reached-on c.requires.0 c.requires.1 c.loop-k.invariant (omega arith)

pub returns : goal.returns
returns c = reached-all c.requires.0 c.requires.1 c.loop-k.invariant (omega arith)
