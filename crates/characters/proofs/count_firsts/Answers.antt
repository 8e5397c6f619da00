use Prim.Native.Nat.{◌+◌, ◌-◌, ◌*◌, ◌/◌}
use mathlib.Core.Path.{◌≡◌, refl, ap, ap₂, ◌∙◌}
use native.Mathlib.Nat.{zero-add}
use native.Mathlib.Omega.{arith}
use lib.ListN.{length}
use Rattle.base.specs.Iter.{iter}
use Rattle.characters.specs.Counting.{firsts_in}
use Rattle.characters.proofs.Firsts.{firsts-add, firsts-most, firsts-parts}
use Rattle.characters.proofs.count_firsts.Goals as goal
use Rattle.characters.proofs.count_firsts.Goals.{else-loop-i-test, then-loop-i-test+else-whole-i-gt8}

pub loop-i-init : goal.loop-i-init
unfolding firsts_in iter
loop-i-init c = record { strides = (0, refl); whole = omega arith; fits = omega arith; counted = refl }

pub loop-i-preserved : goal.loop-i-preserved
loop-i-preserved c =
    let i = c.loop-i.invariant in
    let e = i.strides.1 in
    record {
      strides = (i.strides.0 + 1, omega arith);
      whole = omega arith;
      fits = omega arith;
      counted = rw (firsts-add, zero-add, ← i.counted) (ap (c.loop-i.n +◌) c.count8-n.ensures.0);
    }

pub overflow_add-result : goal.overflow_add-result
overflow_add-result c =
    let s = c.args.s.now in
    let rest = firsts-most s (length s / 8 * 8) (length s - length s / 8 * 8) in
    elim c.loop-i-test.branch [
      | else-loop-i-test w ↦ omega (arith, rest, w.n-is, c.count_from.ensures)
      | then-loop-i-test+else-whole-i-gt8 w ↦ omega (arith, rest, w.n-is, w.count8-n.ensures.1, c.count_from.ensures)
    ]

pub returns : goal.returns
returns c =
    let s = c.args.s.now in
    let i = c.loop-i.invariant in
    let e = i.strides.1 in
    let counted : c.loop-i-test.n ≡ firsts_in s 0 (length s / 8 * 8) = elim c.loop-i-test.branch [
      | else-loop-i-test w ↦ let k : length s / 8 * 8 ≡ c.loop-i.i = omega (arith, w.loop-i-test.false) in w.n-is ∙ rw k i.counted
      | then-loop-i-test+else-whole-i-gt8 w ↦
          let k : length s / 8 * 8 ≡ c.loop-i.i + 8 = omega arith in
          w.n-is ∙ rw (k, firsts-add, zero-add, ← i.counted) (ap (c.loop-i.n +◌) w.count8-n.ensures.0)
    ] in
    ap₂ ◌+◌ counted c.count_from.ensures ∙ firsts-parts s (length s / 8 * 8) (omega arith)
