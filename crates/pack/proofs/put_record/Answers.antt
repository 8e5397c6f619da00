use Rattle.pack.proofs.Laws.{body_is, one-cue}
use Rattle.cuts.specs.Cuts.{end_tick, record_size}
use Rattle.records.proofs.Laws.{in_order}
use Rattle.wvtt_write.specs.Written.{cues_bytes}
use Rattle.base.specs.Over.{wrote}
use Rattle.base.proofs.Over.{wrote-nil}
use borrow.Author.Tests.{le-ltb, lt-ltb}
use lib.ListN.{length}
use mathlib.Core.Path.{◌∙◌, ap}
use Prim.Native.Nat.{◌+◌, ◌≤◌, ◌<◌}
use native.Mathlib.Omega.{arith}
use Rattle.pack.proofs.put_record.Goals as goal

pub returns-then-end_tick-b : goal.returns-then-end_tick-b
unfolding cues_bytes
returns-then-end_tick-b c = let h : end_tick c.args.scale c.args.records.now c.args.k ≤ c.args.b = omega (arith, c.end_tick.ensures) in
    rw (le-ltb _ _ h) record { value = omega arith; out_after = wrote-nil _ _ }

pub put_cue-requires : goal.put_cue-requires
unfolding record_size
put_cue-requires c = let a = c.args in
    let h : a.b < end_tick a.scale a.records.now a.k = omega (arith, c.end_tick.ensures) in
    let r : a.at + record_size a.records.now a.k ≤ length a.out.now = rw (lt-ltb _ _ h) at c.requires.room in
    let o = in_order a.records.now a.k in (
      rw (c.payload_length-payload.ensures.0, c.settings_length-settings.ensures.0, c.identifier_length-identifier.ensures.0) r,
      omega (arith, o.settings-at, o.payload-at, o.end-at, c.requires.inside.1, c.payload_length-payload.ensures.0, c.settings_length-settings.ensures.0, c.identifier_length-identifier.ensures.0, c.text_offset-from.ensures.0),
      omega (arith, c.identifier_length-identifier.ensures.1),
      omega (arith, c.settings_length-settings.ensures.1),
      omega (arith, c.payload_length-payload.ensures.1),
    )

pub returns : goal.returns
unfolding record_size
returns c = let a = c.args in
    let h : a.b < end_tick a.scale a.records.now a.k = omega (arith, c.end_tick.ensures) in
    let e = body_is a.records.now a.pool.now a.k _ _ _ _ _ c.source_id-id.ensures.0 c.text_offset-from.ensures.0 c.identifier_length-identifier.ensures.0 c.settings_length-settings.ensures.0 c.payload_length-payload.ensures.0 in
    rw (lt-ltb _ _ h) record { value = c.put_cue.ensures.0 ∙ rw (c.payload_length-payload.ensures.0, c.settings_length-settings.ensures.0, c.identifier_length-identifier.ensures.0); out_after = c.put_cue.ensures.1 ∙ rw e (ap (wrote a.out.now a.at) (one-cue _)) }
