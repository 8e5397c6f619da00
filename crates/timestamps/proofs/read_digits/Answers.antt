use Prim.Native.Nat.{ℕ, ◌+◌, ◌*◌, min}
use mathlib.Core.Path.{◌≡◌, sym, ap, ◌∙◌}
use native.Mathlib.Omega.{arith}
use Rattle.std.proofs.lemmas.Grind.{common_steps}
use lib.ListN.{length}
use Rattle.timestamps.specs.Timestamps.{digit}
use Rattle.timestamps.proofs.Laws.{counting-start, counting_more, counting-stop, counting-end}
use Rattle.timestamps.proofs.read_digits.Goals as goal

pub loop-i-init : goal.loop-i-init
loop-i-init c = counting-start _ _

pub returns-then-not-is_within : goal.returns-then-not-is_within
unfolding digit
returns-then-not-is_within c = counting-stop _ _ _ _ c.loop-i-test.true (sym c.is_within.ensures ∙ c.if-not-is_within.true) c.loop-i.invariant

pub overflow_mul-number : goal.overflow_mul-number
overflow_mul-number c = record { fits = omega (arith, c.loop-i.invariant.small) }

pub number_of-requires : goal.number_of-requires
unfolding digit
number_of-requires c = sym c.is_within.ensures ∙ c.if-not-is_within.false

pub overflow_add-number : goal.overflow_add-number
overflow_add-number c = record { fits = omega (arith, c.loop-i.invariant.small, c.number_of.ensures.1) }

pub loop-i-preserved : goal.loop-i-preserved
unfolding digit
loop-i-preserved c =
    let w : c.min-number.result ≡ min (c.loop-i.number * 10 + c.number_of.result) c.args.most = grind (arith, common_steps, c.min-number.ensures) in
    counting_more _ _ _ _ _ c.loop-i-test.true (sym c.is_within.ensures ∙ c.if-not-is_within.false)
    (w ∙ ap (λ (x : ℕ). min (c.loop-i.number * 10 + x) c.args.most) c.number_of.ensures.0) c.loop-i.invariant

pub returns : goal.returns
returns c =
    let e : c.loop-i.i ≡ length c.args.s.now = omega arith in
    let w = counting-end _ _ _ _ c.loop-i-test.false c.loop-i.invariant in (sym e ∙ w.0, w.1)
