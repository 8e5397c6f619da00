use Rattle.timeline.specs.Cues.{Body}
use Rattle.pack.proofs.Laws.{none_written, room_for, cue-written, shown-after}
use Rattle.pack.specs.Writing.{shown}
use Rattle.cuts.proofs.Laws.{window-rises, size-before, size-more, size-after}
use Rattle.cuts.specs.Cuts.{cues_size}
use Rattle.wvtt_write.specs.Written.{cues_bytes}
use Rattle.base.specs.Over.{wrote}
use native.Mathlib.Nat.{le_antisymm}
use mathlib.Core.List.{List}
use mathlib.Core.Path.{◌∙◌, ap, refl}
use Prim.Native.Nat.{ℕ, ◌+◌}
use native.Mathlib.Omega.{arith}
use Rattle.pack.proofs.put_cues.Goals as goal

pub loop-k-init : goal.loop-k-init
loop-k-init c = let w = c.requires.lasting.2 in
    (window-rises _ _ _ _ _ _ c.requires.lasting.0 w, omega (arith, size-before _ _ _ _ w.ended), none_written _ _ _ _ _ _ _ w.ended, refl)

pub put_record-to-requires : goal.put_record-to-requires
put_record-to-requires c = let w = c.requires.lasting.2 in
    let l = c.loop-k in
    let r = room_for _ _ _ _ _ _ (w.started l.k (omega arith)) (omega arith) w.last_most in
    record { inside = (omega (arith, w.last_most), c.requires.lasting.1 l.k (omega (arith, w.last_most))); room = omega (arith, r, l.invariant) }

pub loop-k-preserved : goal.loop-k-preserved
loop-k-preserved c = let w = c.requires.lasting.2 in
    let l = c.loop-k in
    let h = w.started l.k (omega arith) in
    let r = room_for _ _ _ _ _ _ h (omega arith) w.last_most in (
      omega arith,
      c.put_record-to.ensures.value ∙ rw l.invariant.1 (omega (arith, size-more _ _ _ _ h)),
      cue-written _ _ _ _ _ _ _ _ _ _ h (λ i m. c.requires.lasting.1 i (omega (arith, w.last_most))) l.invariant.2 l.invariant.1 (omega (arith, r)) c.put_record-to.ensures.out_after,
      omega arith,
    )

pub shape_of-out : goal.shape_of-out
shape_of-out c = c.loop-k.invariant.3

pub returns : goal.returns
returns c = let w = c.requires.lasting.2 in
    let a = c.args in
    let l = c.loop-k in
    let e = le_antisymm l.invariant.0 (omega arith) in record { value = l.invariant.1 ∙ ap (λ (x : ℕ). a.at + cues_size a.scale a.records.now a.b x) e ∙ ap (λ (x : ℕ). a.at + x) (size-after _ _ _ _ _ w.later w.last_most); out_after = l.invariant.2 ∙ ap (λ (x : ℕ). wrote a.out.now a.at (cues_bytes (shown a.scale a.records.now a.pool.now a.b x))) e ∙ ap (λ (y : List Body). wrote a.out.now a.at (cues_bytes y)) (shown-after _ _ _ _ _ _ w.later w.last_most) }
