use Rattle.cuts.proofs.Laws.{cuts-most}
use Rattle.pack.proofs.Turns.{sound-timed, sound-inside, behind, table-room, samples-room, row_written, sample-written, take_whole}
use Rattle.pack.specs.Packing.{table_bytes, samples_bytes}
use Rattle.cuts.proofs.Laws.{cut-first, cut-stops, turn}
use Rattle.cuts.specs.Window.{From}
use Rattle.cuts.specs.Cuts.{ticks_to, or_empty, Timed}
use Rattle.records.specs.Records.{count}
use Rattle.timeline.proofs.Nearest.{nearest-top}
use Rattle.times.specs.Times.{tick}
use Rattle.base.proofs.Over.{over-nil}
use lib.ListN.{length}
use mathlib.Core.Path.{◌∙◌, ap, refl, subst, subst⁻¹}
use Prim.Native.Nat.{ℕ, ◌/◌, ◌≤◌, ◌<◌}
use native.Mathlib.Omega.{arith}
use Rattle.pack.proofs.write_track.Goals as goal

pub loop-b-init : goal.loop-b-init
unfolding table_bytes samples_bytes
loop-b-init c = (cut-first _ _ _ _, omega arith, omega arith, (λ j l. absurd (omega arith)), (λ j l. absurd (omega arith)), refl, over-nil _, over-nil _, refl, refl)

pub stretch_from-s-requires : goal.stretch_from-s-requires
unfolding count
stretch_from-s-requires c = let l = c.loop-b.invariant in
    let a = c.args in
    record { timed = (subst⁻¹ (λ (x : ℕ). Timed a.scale x a.records.now (length a.records.now / 24)) c.tick_of-end.ensures.0 (sound-timed _ _ _ _ c.requires.sound), l.1, l.2); ended = (l.3, l.4) }

pub overflow_sub-next : goal.overflow_sub-next
unfolding count
overflow_sub-next c =
    let found : let a = c.args in (c.loop-b.b < tick a.scale a.t) × From a.scale (tick a.scale a.t) a.records.now (count a.records.now) c.loop-b.b c.stretch_from-s.result = let a = c.args in (
      omega (arith, c.tick_of-end.ensures.0, c.loop-b-test.true),
      subst (λ (x : ℕ). From a.scale x a.records.now (length a.records.now / 24) c.loop-b.b c.stretch_from-s.result) c.tick_of-end.ensures.0 c.stretch_from-s.ensures,
    ) in
    let f = found in
    let g = turn _ _ _ _ _ _ _ (sound-timed _ _ _ _ c.requires.sound) c.loop-b.invariant.0 f.0 f.1 in
    omega (arith, g.3)

pub overflow_cast-next : goal.overflow_cast-next
unfolding count
overflow_cast-next c =
    let found : let a = c.args in (c.loop-b.b < tick a.scale a.t) × From a.scale (tick a.scale a.t) a.records.now (count a.records.now) c.loop-b.b c.stretch_from-s.result = let a = c.args in (
      omega (arith, c.tick_of-end.ensures.0, c.loop-b-test.true),
      subst (λ (x : ℕ). From a.scale x a.records.now (length a.records.now / 24) c.loop-b.b c.stretch_from-s.result) c.tick_of-end.ensures.0 c.stretch_from-s.ensures,
    ) in
    let f = found in
    let a = c.args in
    omega (arith, f.1.next_is, nearest-top (tick a.scale a.t) c.loop-b.b (ticks_to a.scale a.records.now (count a.records.now)), c.requires.sound.limits.tick_most)

pub sample_size-requires : goal.sample_size-requires
sample_size-requires c = c.stretch_from-s.ensures.cues_most

pub overflow_cast-sample_size : goal.overflow_cast-sample_size
overflow_cast-sample_size c = omega (arith, c.sample_size.ensures.1)

pub put_row-requires : goal.put_row-requires
unfolding count
put_row-requires c =
    let found : let a = c.args in (c.loop-b.b < tick a.scale a.t) × From a.scale (tick a.scale a.t) a.records.now (count a.records.now) c.loop-b.b c.stretch_from-s.result = let a = c.args in (
      omega (arith, c.tick_of-end.ensures.0, c.loop-b-test.true),
      subst (λ (x : ℕ). From a.scale x a.records.now (length a.records.now / 24) c.loop-b.b c.stretch_from-s.result) c.tick_of-end.ensures.0 c.stretch_from-s.ensures,
    ) in
    let f = found in
    let r = table-room _ _ _ _ c.requires.sound _ _ c.loop-b.invariant.0 f.0 in
    omega (arith, r, c.requires.room.0, c.loop-b.invariant.8)

pub put_sample-at-requires : goal.put_sample-at-requires
unfolding count
put_sample-at-requires c =
    let found : let a = c.args in (c.loop-b.b < tick a.scale a.t) × From a.scale (tick a.scale a.t) a.records.now (count a.records.now) c.loop-b.b c.stretch_from-s.result = let a = c.args in (
      omega (arith, c.tick_of-end.ensures.0, c.loop-b-test.true),
      subst (λ (x : ℕ). From a.scale x a.records.now (length a.records.now / 24) c.loop-b.b c.stretch_from-s.result) c.tick_of-end.ensures.0 c.stretch_from-s.ensures,
    ) in
    let f = found in
    let l = c.loop-b.invariant in
    let w = sound-timed _ _ _ _ c.requires.sound in
    let r = samples-room _ _ _ _ c.requires.sound _ _ l.0 f.0 in
    let q = ap or_empty f.1.cues_is in
    record { room = (w.whole, omega (arith, r, q, l.5, l.9, c.requires.room.1)); lasting = (w.lasts, sound-inside _ _ _ _ c.requires.sound, c.stretch_from-s.ensures) }

pub overflow_add-i : goal.overflow_add-i
overflow_add-i c = let a = c.args in
    omega (arith, c.loop-b.invariant.0.there, cuts-most a.scale (tick a.scale a.t) a.records.now (count a.records.now), c.requires.sound.few)

pub loop-b-smaller : goal.loop-b-smaller
unfolding count
loop-b-smaller c =
    let found : let a = c.args in (c.loop-b.b < tick a.scale a.t) × From a.scale (tick a.scale a.t) a.records.now (count a.records.now) c.loop-b.b c.stretch_from-s.result = let a = c.args in (
      omega (arith, c.tick_of-end.ensures.0, c.loop-b-test.true),
      subst (λ (x : ℕ). From a.scale x a.records.now (length a.records.now / 24) c.loop-b.b c.stretch_from-s.result) c.tick_of-end.ensures.0 c.stretch_from-s.ensures,
    ) in
    let f = found in
    let g = turn _ _ _ _ _ _ _ (sound-timed _ _ _ _ c.requires.sound) c.loop-b.invariant.0 f.0 f.1 in
    omega (arith, g.3, c.loop-b-test.true)

pub loop-b-preserved : goal.loop-b-preserved
unfolding count
loop-b-preserved c =
    let found : let a = c.args in (c.loop-b.b < tick a.scale a.t) × From a.scale (tick a.scale a.t) a.records.now (count a.records.now) c.loop-b.b c.stretch_from-s.result = let a = c.args in (
      omega (arith, c.tick_of-end.ensures.0, c.loop-b-test.true),
      subst (λ (x : ℕ). From a.scale x a.records.now (length a.records.now / 24) c.loop-b.b c.stretch_from-s.result) c.tick_of-end.ensures.0 c.stretch_from-s.ensures,
    ) in
    let f = found in
    let l = c.loop-b.invariant in
    let g = turn _ _ _ _ _ _ _ (sound-timed _ _ _ _ c.requires.sound) l.0 f.0 f.1 in
    let q = ap or_empty f.1.cues_is in
    let e = behind _ _ _ _ c.requires.sound _ _ l.0 f.0 in (
      g.0,
      f.1.window.first_most,
      f.1.window.last_most,
      g.1,
      g.2,
      omega (arith, c.put_sample-at.ensures.value, e, q, l.5),
      row_written _ _ _ _ c.requires.sound _ _ l.0 f.0 _ _ _ _ _ l.6 f.1.next_is (c.sample_size.ensures.0 ∙ q) c.put_row.ensures,
      sample-written _ _ _ _ c.requires.sound _ _ l.0 f.0 _ _ _ _ l.7 l.5 c.put_sample-at.ensures.out_after,
      omega (arith, l.8),
      omega (arith, l.9),
    )

pub shape_of-table : goal.shape_of-table
shape_of-table c = c.loop-b.invariant.8

pub shape_of-samples : goal.shape_of-samples
shape_of-samples c = c.loop-b.invariant.9

pub returns : goal.returns
returns c = let l = c.loop-b.invariant in
    let a = c.args in
    let h : tick a.scale a.t ≤ c.loop-b.b = omega (arith, c.tick_of-end.ensures.0, c.loop-b-test.false) in
    let s = cut-stops _ _ _ _ (sound-timed _ _ _ _ c.requires.sound) _ _ l.0 h in
    let w = take_whole _ _ _ _ c.requires.sound _ s in
    record { table_after = l.6 ∙ rw w; samples_after = l.7 ∙ rw w }
