use Prim.Native.Nat.{◌+◌, ◌-◌, ◌*◌, ◌/◌}
use mathlib.Core.Path.{◌≡◌}
use native.Mathlib.Omega.{arith}
use Rattle.tx3g_tidy.proofs.Escapes.{plain-begin, plain-on, plain-found}
use Rattle.tx3g_tidy.proofs.pass_plain.Goals as goal

pub loop-k-init : goal.loop-k-init
loop-k-init c = let start : c.args.from + 0 * 8 ≡ c.args.from = omega arith in rw start (plain-begin _ _)

pub returns-then-has_escapes : goal.returns-then-has_escapes
returns-then-has_escapes c = (omega arith, omega arith, c.loop-k.invariant)

pub loop-k-preserved : goal.loop-k-preserved
loop-k-preserved c =
    let at = c.args.from + c.loop-k.k * 8 in
    let next : c.args.from + (c.loop-k.k + 1) * 8 ≡ c.args.from + c.loop-k.k * 8 + 8 = omega arith in
    rw next (plain-on _ _ at _ (omega arith) (omega arith) c.loop-k.invariant (plain-found _ at (at + 8) _ c.has_escapes.ensures c.if-has_escapes.false))

pub returns : goal.returns
returns c =
    let all : c.loop-k.k ≡ (c.args.end - c.args.from) / 8 = omega arith in
    (omega arith, omega arith, rw (← all) c.loop-k.invariant)
