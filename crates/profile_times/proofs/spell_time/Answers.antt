use Prim.Native.Nat.{◌+◌}
use native.Mathlib.Omega.{arith}
use Rattle.profile.specs.Machine.{clock, most}
use Rattle.profile_times.proofs.Clock.{rests_of, none_read, all_read, ends, below, above, steps-fit, late, on}
use Rattle.profile_times.proofs.spell_time.Goals.{then-b-least-via-then-b-least, then-b-least-via-else-b-least+then-highest-k}
use Rattle.profile_times.proofs.spell_time.Goals as goal

pub loop-k-init : goal.loop-k-init
loop-k-init c = none_read _ _ _ c.requires.0 c.requires.1 c.requires.2

pub returns-then-s-i : goal.returns-then-s-i
returns-then-s-i c = ends c.loop-k.invariant (omega arith) c.if-s-i.true

pub returns-then-b-least : goal.returns-then-b-least
unfolding clock
returns-then-b-least c =
    let t = c.loop-k.invariant in
    elim c.then-b-least.branch [
      | then-b-least-via-then-b-least w ↦ below t (omega arith) (omega arith) w.if-b-least.true
      | then-b-least-via-else-b-least+then-highest-k w ↦ above t (omega arith) (omega arith) w.if-b-least.false w.if-highest-k.true
    ]

pub overflow_cast-time : goal.overflow_cast-time
overflow_cast-time c = omega (arith, (c.type_inv.s (c.args.at + c.loop-k.k)).fits)

pub overflow_mul-time : goal.overflow_mul-time
unfolding clock most rests_of
overflow_mul-time c = omega (arith, (steps-fit c.loop-k.invariant (omega arith) (omega arith) c.if-b-least.false c.if-highest-k.false).0)

pub overflow_add-time : goal.overflow_add-time
unfolding clock most rests_of
overflow_add-time c = omega (arith, (steps-fit c.loop-k.invariant (omega arith) (omega arith) c.if-b-least.false c.if-highest-k.false).1)

pub overflow_add-time-in-loop-k : goal.overflow_add-time-in-loop-k
unfolding clock most rests_of
overflow_add-time-in-loop-k c = omega (arith, (steps-fit c.loop-k.invariant (omega arith) (omega arith) c.if-b-least.false c.if-highest-k.false).1)

pub returns-then-time-rests : goal.returns-then-time-rests
unfolding clock most rests_of
returns-then-time-rests c = late c.loop-k.invariant (omega arith) (omega arith) c.if-b-least.false c.if-highest-k.false c.if-time-rests.true

pub loop-k-preserved : goal.loop-k-preserved
unfolding clock most rests_of
loop-k-preserved c = on c.loop-k.invariant (omega arith) (omega arith) c.if-b-least.false c.if-highest-k.false c.if-time-rests.false

pub returns : goal.returns
returns c = all_read c.loop-k.invariant (omega arith)

pub overflow_add-i : goal.overflow_add-i
overflow_add-i c = omega (arith, c.loop-k.invariant.reads.bounds.1)

pub overflow_add-result : goal.overflow_add-result
overflow_add-result c = omega (arith, c.loop-k.invariant.reads.bounds.1)
