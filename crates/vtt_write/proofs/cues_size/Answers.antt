use mathlib.Core.Path.{◌≡◌, ap, ◌∙◌}
use native.Mathlib.Omega.{arith}
use Rattle.records.specs.Records.{count}
use Rattle.vtt_write.specs.Steps.{size_to}
use Rattle.vtt_write.proofs.Laws.{size-start, size-more, whole-count}
use Rattle.vtt_write.proofs.cues_size.Goals as goal

pub loop-i-init : goal.loop-i-init
loop-i-init c = (omega arith, size-start _, omega arith)

pub cue_size-size-requires : goal.cue_size-size-requires
cue_size-size-requires c = omega (arith, c.loop-i-test.true)

pub overflow_add-size : goal.overflow_add-size
overflow_add-size c = record { fits = omega (arith, c.loop-i.invariant.2, c.loop-i.invariant.0, c.loop-i-test.true, whole-count c.args.records.now, c.requires, c.cue_size-size.ensures.1) }

pub loop-i-preserved : goal.loop-i-preserved
loop-i-preserved c =
    let i = c.loop-i.invariant in
    (omega (arith, c.loop-i-test.true), size-more _ _ _ _ i.1 c.cue_size-size.ensures.0, omega (arith, i.2, c.cue_size-size.ensures.1))

pub returns : goal.returns
returns c =
    let i = c.loop-i.invariant in
    let w = whole-count c.args.records.now in
    let e : c.loop-i.i ≡ count c.args.records.now = omega (arith, i.0, c.loop-i-test.false) in
    (i.1 ∙ ap (size_to c.args.records.now) e, omega (arith, i.2, c.requires))
