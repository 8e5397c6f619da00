-- The parts of the pool are the texts of its caption.
use Prim.Native.Nat.{ℕ, ◌+◌}
use mathlib.Core.Path.{ap, ◌∙◌}
use native.Mathlib.Omega.{arith}
use Rattle.base.specs.Over.{wrote}
use Rattle.records.proofs.Laws.{in-records, in_order}
use Rattle.cues.specs.Caption.{Caption}
use Rattle.vtt_write.specs.Writing.{cue_text}
use Rattle.vtt_write.proofs.Laws.{pooled-is, pooled-size}
use Rattle.vtt_write.proofs.put_pooled.Goals as goal

pub text_offset-identifier-requires : goal.text_offset-identifier-requires
text_offset-identifier-requires c = in-records _ _ c.requires.1

pub settings_offset-settings-requires : goal.settings_offset-settings-requires
settings_offset-settings-requires c = in-records _ _ c.requires.1

pub payload_offset-payload-requires : goal.payload_offset-payload-requires
payload_offset-payload-requires c = in-records _ _ c.requires.1

pub texts_end-last-requires : goal.texts_end-last-requires
texts_end-last-requires c = in-records _ _ c.requires.1

pub start_ms-requires : goal.start_ms-requires
start_ms-requires c = in-records _ _ c.requires.1

pub end_ms-requires : goal.end_ms-requires
end_ms-requires c = in-records _ _ c.requires.1

pub slice_bounds-put_cue-count : goal.slice_bounds-put_cue-count
slice_bounds-put_cue-count c = omega (arith, in_order c.args.records.now c.args.i)

pub slice_bounds-put_cue-start : goal.slice_bounds-put_cue-start
slice_bounds-put_cue-start c = omega (arith, in_order c.args.records.now c.args.i, (c.requires.0.records c.args.i c.requires.1).inside)

pub slice_bounds-put_cue-end : goal.slice_bounds-put_cue-end
slice_bounds-put_cue-end c = omega (arith, in_order c.args.records.now c.args.i, (c.requires.0.records c.args.i c.requires.1).inside)

pub slice_bounds-put_cue-count-2 : goal.slice_bounds-put_cue-count-2
slice_bounds-put_cue-count-2 c = omega (arith, in_order c.args.records.now c.args.i)

pub slice_bounds-put_cue-start-2 : goal.slice_bounds-put_cue-start-2
slice_bounds-put_cue-start-2 c = omega (arith, in_order c.args.records.now c.args.i, (c.requires.0.records c.args.i c.requires.1).inside)

pub slice_bounds-put_cue-end-2 : goal.slice_bounds-put_cue-end-2
slice_bounds-put_cue-end-2 c = omega (arith, in_order c.args.records.now c.args.i, (c.requires.0.records c.args.i c.requires.1).inside)

pub slice_bounds-put_cue-count-3 : goal.slice_bounds-put_cue-count-3
slice_bounds-put_cue-count-3 c = omega (arith, in_order c.args.records.now c.args.i)

pub slice_bounds-put_cue-start-3 : goal.slice_bounds-put_cue-start-3
slice_bounds-put_cue-start-3 c = omega (arith, in_order c.args.records.now c.args.i, (c.requires.0.records c.args.i c.requires.1).inside)

pub slice_bounds-put_cue-end-3 : goal.slice_bounds-put_cue-end-3
slice_bounds-put_cue-end-3 c = omega (arith, in_order c.args.records.now c.args.i, (c.requires.0.records c.args.i c.requires.1).inside)

pub put_cue-requires : goal.put_cue-requires
put_cue-requires c =
    let p = c.requires in
    let r = p.0.records c.args.i p.1 in
    let n = pooled-size c.args.records.now c.args.pool.now c.args.i _ _ _ _ c.text_offset-identifier.ensures.0 c.settings_offset-settings.ensures.0 c.payload_offset-payload.ensures.0 c.texts_end-last.ensures.0 p.0 p.1 in
    (omega (arith, p.2, n), omega (arith, r.lasts, r.ends, c.start_ms.ensures.0), omega (arith, r.ends, c.end_ms.ensures.0))

pub returns : goal.returns
returns c =
    let p = c.requires in
    let n = pooled-size c.args.records.now c.args.pool.now c.args.i _ _ _ _ c.text_offset-identifier.ensures.0 c.settings_offset-settings.ensures.0 c.payload_offset-payload.ensures.0 c.texts_end-last.ensures.0 p.0 p.1 in
    let y = pooled-is c.args.records.now c.args.pool.now c.args.i _ _ _ _ c.text_offset-identifier.ensures.0 c.settings_offset-settings.ensures.0 c.payload_offset-payload.ensures.0 c.texts_end-last.ensures.0 _ _ c.start_ms.ensures.0 c.end_ms.ensures.0 in
    (c.put_cue.ensures.0 ∙ ap (λ (k : ℕ). c.args.at + k) n, c.put_cue.ensures.1 ∙ ap (λ (x : Caption). wrote c.args.out.now c.args.at (cue_text x)) y)
