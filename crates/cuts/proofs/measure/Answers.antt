use Rattle.cuts.proofs.Laws.{cut-first, cut-goes, cut-stops, cuts-most, bytes-more, turn}
use Rattle.cuts.specs.Cuts.{or_empty, bytes_to}
use mathlib.Core.Path.{◌∙◌, sym, ap, ap₂, refl}
use Prim.Native.Nat.{◌+◌}
use native.Mathlib.Omega.{arith}
use Rattle.cuts.proofs.measure.Goals as goal

pub loop-b-init : goal.loop-b-init
unfolding bytes_to
loop-b-init c = (cut-first _ _ _ _, omega arith, omega arith, (λ j l. absurd (omega arith)), (λ j l. absurd (omega arith)), refl, omega arith)

pub stretch_from-s-requires : goal.stretch_from-s-requires
stretch_from-s-requires c = let l = c.loop-b.invariant in record { timed = (c.requires, l.1, l.2); ended = (l.3, l.4) }

pub sample_size-bytes-requires : goal.sample_size-bytes-requires
sample_size-bytes-requires c = c.stretch_from-s.ensures.cues_most

pub overflow_add-bytes : goal.overflow_add-bytes
overflow_add-bytes c = let l = c.loop-b.invariant in
    let a = c.args in
    let m = cuts-most a.scale a.end a.records.now a.n in
    omega (arith, l.0.there, m, c.requires.few, c.sample_size-bytes.ensures.1)

pub overflow_add-count : goal.overflow_add-count
overflow_add-count c = let l = c.loop-b.invariant in
    let a = c.args in
    let m = cuts-most a.scale a.end a.records.now a.n in
    omega (arith, l.0.there, m, c.requires.few)

pub loop-b-smaller : goal.loop-b-smaller
loop-b-smaller c = let l = c.loop-b.invariant in
    let g = cut-goes _ _ _ _ c.requires _ _ l.0 c.loop-b-test.true in
    omega (arith, g.1, c.stretch_from-s.ensures.next_is, c.loop-b-test.true)

pub loop-b-preserved : goal.loop-b-preserved
loop-b-preserved c = let l = c.loop-b.invariant in
    let s = c.stretch_from-s.ensures in
    let g = turn _ _ _ _ _ _ _ c.requires l.0 c.loop-b-test.true s in (
      g.0,
      s.window.first_most,
      s.window.last_most,
      g.1,
      g.2,
      ap₂ ◌+◌ l.5 (c.sample_size-bytes.ensures.0 ∙ ap or_empty s.cues_is) ∙ sym (bytes-more _ _ _ _ _ _ l.0),
      omega (arith, l.6, c.sample_size-bytes.ensures.1),
    )

pub returns : goal.returns
returns c = let l = c.loop-b.invariant in
    let a = c.args in
    let m = cuts-most a.scale a.end a.records.now a.n in
    (cut-stops _ _ _ _ c.requires _ _ l.0 c.loop-b-test.false, l.5, omega (arith, l.0.there, m, c.requires.few))
