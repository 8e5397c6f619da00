-- `cues::judge_pooled` meets its contract: the parts of the pool are the texts of its caption.
use mathlib.Core.Path.{◌∙◌}
use native.Mathlib.Omega.{arith}
use Rattle.records.proofs.Laws.{in_order}
use Rattle.cues.proofs.Laws.{content-is}
use Rattle.cues.proofs.judge_pooled.Goals as goal

pub slice_bounds-judge_content-count : goal.slice_bounds-judge_content-count
slice_bounds-judge_content-count c = omega (arith, in_order c.args.records.now c.args.i)

pub slice_bounds-judge_content-start : goal.slice_bounds-judge_content-start
slice_bounds-judge_content-start c = omega (arith, in_order c.args.records.now c.args.i)

pub slice_bounds-judge_content-end : goal.slice_bounds-judge_content-end
slice_bounds-judge_content-end c = omega (arith, in_order c.args.records.now c.args.i)

pub slice_bounds-judge_content-count-2 : goal.slice_bounds-judge_content-count-2
slice_bounds-judge_content-count-2 c = omega (arith, in_order c.args.records.now c.args.i)

pub slice_bounds-judge_content-start-2 : goal.slice_bounds-judge_content-start-2
slice_bounds-judge_content-start-2 c = omega (arith, in_order c.args.records.now c.args.i)

pub slice_bounds-judge_content-end-2 : goal.slice_bounds-judge_content-end-2
slice_bounds-judge_content-end-2 c = omega (arith, in_order c.args.records.now c.args.i)

pub slice_bounds-judge_content-count-3 : goal.slice_bounds-judge_content-count-3
slice_bounds-judge_content-count-3 c = omega (arith, in_order c.args.records.now c.args.i)

pub slice_bounds-judge_content-start-3 : goal.slice_bounds-judge_content-start-3
slice_bounds-judge_content-start-3 c = omega (arith, in_order c.args.records.now c.args.i)

pub returns : goal.returns
returns c = c.judge_content.ensures ∙ content-is c.args.scale c.args.t c.args.i c.args.records.now c.args.pool.now _ _ _ _ _ _ _ c.text_offset-identifier.ensures.0 c.settings_offset-settings.ensures.0 c.payload_offset-payload.ensures.0 c.texts_end-last.ensures.0 c.start_before.ensures c.start_ms.ensures.0 c.end_ms.ensures.0
