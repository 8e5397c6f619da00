use Rattle.cuts.proofs.Laws.{later-from, near-after}
use Rattle.cuts.specs.Cuts.{ticks_to}
use Prim.Native.Nat.{ℕ}
use Rattle.timeline.specs.Nearest.{nearest}
use mathlib.Core.Path.{◌∙◌, ap}
use Rattle.cuts.proofs.stretch_from.Goals as goal

pub skip_ended-f-requires : goal.skip_ended-f-requires
skip_ended-f-requires c = let t = c.requires.timed.0 in record { inside = (t.whole, c.requires.timed.1); ended = c.requires.ended.0 }

pub pass_started-l-requires : goal.pass_started-l-requires
pass_started-l-requires c = let t = c.requires.timed.0 in record { inside = (t.whole, c.requires.timed.2); started = c.requires.ended.1 }

pub next_start-top-requires : goal.next_start-top-requires
next_start-top-requires c = c.requires.timed.0.whole

pub scan_window-s-requires : goal.scan_window-s-requires
scan_window-s-requires c = let t = c.requires.timed.0 in
    record { inside = (t.whole, t.few); lasting = (t.lasts, record { first_most = c.skip_ended-f.ensures.0; last_most = c.pass_started-l.ensures.stops.1; ended = c.skip_ended-f.ensures.1; started = c.pass_started-l.ensures.all_started; later = later-from _ _ _ _ _ _ t c.pass_started-l.ensures.stops.2 }) }

pub returns : goal.returns
returns c = let t = c.requires.timed.0 in
    let a = c.args in
    let s = c.scan_window-s.ensures in
    record {
      window = record { first_most = c.skip_ended-f.ensures.0; last_most = c.pass_started-l.ensures.stops.1; ended = c.skip_ended-f.ensures.1; started = c.pass_started-l.ensures.all_started; later = later-from _ _ _ _ _ _ t c.pass_started-l.ensures.stops.2 };
      next_is = s.0 ∙ ap (λ (x : ℕ). nearest x a.b (ticks_to a.scale a.records.now c.pass_started-l.result)) c.next_start-top.ensures ∙ near-after _ _ _ _ _ _ t c.pass_started-l.ensures.stops.1 c.pass_started-l.ensures.stops.2;
      cues_is = s.1;
      cues_most = s.2;
    }
