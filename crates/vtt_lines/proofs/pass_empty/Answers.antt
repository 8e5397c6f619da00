use Prim.Native.Nat.{ℕ, ◌+◌}
use mathlib.Core.Path.{refl, sym, ap, ◌∙◌}
use native.Mathlib.Omega.{arith}
use lib.ListN.{drop}
use Rattle.vtt_lines.specs.Lines.{lines_of, blocks_from}
use mathlib.Core.Bool.{false}
use Rattle.vtt_lines.proofs.Blocks.{empty-there, empty-step, empty-size}
use Rattle.vtt_lines.proofs.pass_empty.Goals as goal

pub loop-place-init : goal.loop-place-init
loop-place-init c = record { onward = omega arith; within = omega arith; numbered = omega arith; left = refl }

pub loop-place-smaller : goal.loop-place-smaller
loop-place-smaller c =
    let h = sym c.is_empty.ensures ∙ c.loop-place-test.true in
    let k = empty-there c.args.s.now c.loop-place.place c.loop-place.number h in
    omega (arith, k, c.after_end-place.ensures, empty-size c.args.s.now c.loop-place.place k)

pub loop-place-preserved : goal.loop-place-preserved
loop-place-preserved c =
    let s = c.args.s.now in
    let l = c.loop-place in
    let h = sym c.is_empty.ensures ∙ c.loop-place-test.true in
    let z = empty-size s l.place (empty-there s l.place l.number h) in
    let e = c.after_end-place.ensures in
    record {
      onward = omega (arith, l.invariant.onward, e, z);
      within = omega (arith, e, z);
      numbered = omega (arith, l.invariant.numbered, e, z);
      left = l.invariant.left ∙ empty-step s l.place l.number h ∙ ap (λ (k : ℕ). blocks_from false (l.number + 1) (lines_of (drop k s))) (sym e);
    }
