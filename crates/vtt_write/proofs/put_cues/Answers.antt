use Prim.Native.Nat.{ℕ, ◌<◌}
use mathlib.Core.Path.{◌≡◌, refl, ap, ◌∙◌}
use native.Mathlib.Omega.{arith}
use Rattle.base.specs.Over.{wrote}
use Rattle.records.specs.Records.{count}
use Rattle.vtt_write.specs.Steps.{cues_to}
use Rattle.vtt_write.proofs.Laws.{size-start, size-more, size-within, whole-count, cues-start, cues-on}
use Rattle.vtt_write.proofs.put_cues.Goals as goal

pub loop-i-init : goal.loop-i-init
loop-i-init c = (omega arith, omega (arith, size-start c.args.records.now), refl, cues-start _ _ _ _)

pub put_next-place-requires : goal.put_next-place-requires
put_next-place-requires c =
    let i = c.loop-i.invariant in
    let h : c.loop-i.i < count c.args.records.now = omega (arith, c.loop-i-test.true, whole-count c.args.records.now) in
    (c.requires.0, h, omega (arith, i.1, i.2, c.requires.1, size-within c.args.records.now c.loop-i.i (count c.args.records.now) h))

pub loop-i-preserved : goal.loop-i-preserved
loop-i-preserved c =
    let i = c.loop-i.invariant in
    let w = c.put_next-place in
    let h : c.loop-i.i < count c.args.records.now = omega (arith, c.loop-i-test.true, whole-count c.args.records.now) in (
      omega (arith, c.loop-i-test.true),
      omega (arith, w.ensures.0, i.1, size-more c.args.records.now c.loop-i.i _ _ refl refl),
      w.auto.out ∙ i.2,
      cues-on _ _ _ _ _ _ _ _ c.requires.0 h c.requires.1 i.1 i.3 w.ensures.1,
    )

pub shape_of-out : goal.shape_of-out
shape_of-out c = c.loop-i.invariant.2

pub returns : goal.returns
returns c =
    let i = c.loop-i.invariant in
    let e : c.loop-i.i ≡ count c.args.records.now = omega (arith, i.0, c.loop-i-test.false, whole-count c.args.records.now) in
    i.3 ∙ ap (λ (k : ℕ). wrote c.args.out.now c.args.at (cues_to c.args.records.now c.args.pool.now k)) e
