use Rattle.cuts.proofs.Laws.{near_before, near-more, size-before, size-more, size-after, window-rises}
use Rattle.cuts.specs.Cuts.{ticks_to, cues_size}
use Rattle.timeline.specs.Nearest.{nearest}
use native.Mathlib.Nat.{le_antisymm}
use mathlib.Core.Path.{◌∙◌, sym, ap}
use Prim.Native.Nat.{ℕ}
use native.Mathlib.Omega.{arith}
use Rattle.cuts.proofs.scan_window.Goals as goal

pub loop-k-init : goal.loop-k-init
loop-k-init c = let w = c.requires.lasting.1 in
    let a = c.args in (
      window-rises _ _ _ _ _ _ c.requires.lasting.0 w,
      sym (near_before _ _ _ _ _ w.ended (λ j l. c.requires.lasting.0 j (omega (arith, w.first_most)))),
      sym (size-before _ _ _ _ w.ended),
      omega arith,
    )

pub see_record-s-requires : goal.see_record-s-requires
see_record-s-requires c = let w = c.requires.lasting.1 in omega (arith, w.last_most)

pub loop-k-preserved : goal.loop-k-preserved
loop-k-preserved c = let w = c.requires.lasting.1 in
    let h = w.started c.loop-k.k (omega arith) in (
      omega arith,
      c.see_record-s.ensures.next_value ∙ rw c.loop-k.invariant.1 (sym (near-more _ _ _ _ _ h)),
      c.see_record-s.ensures.cues_value.0 ∙ rw c.loop-k.invariant.2 (sym (size-more _ _ _ _ h)),
      omega (arith, c.see_record-s.ensures.cues_value.1),
    )

pub returns : goal.returns
returns c = let w = c.requires.lasting.1 in
    let e = le_antisymm c.loop-k.invariant.0 (omega arith) in
    let a = c.args in (
      c.loop-k.invariant.1 ∙ ap (λ (x : ℕ). nearest a.top a.b (ticks_to a.scale a.records.now x)) e,
      c.loop-k.invariant.2 ∙ ap (cues_size a.scale a.records.now a.b) e ∙ size-after _ _ _ _ _ w.later w.last_most,
      omega (arith, w.last_most),
    )
