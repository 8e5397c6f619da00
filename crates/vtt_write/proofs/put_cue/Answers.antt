-- Identifier, timing line, payload.
use native.Mathlib.Omega.{arith}
use Rattle.cues.specs.Caption.{caption}
use Rattle.vtt_write.specs.Steps.{cue_size}
use Rattle.vtt_write.proofs.Laws.{cue-written}
use Rattle.vtt_write.proofs.put_cue.Goals as goal

pub put_line-timing-requires : goal.put_line-timing-requires
unfolding cue_size
put_line-timing-requires c = omega arith

pub put_timing-lines-requires : goal.put_timing-lines-requires
unfolding cue_size
put_timing-lines-requires c = omega (arith, c.put_line-timing.ensures.0, c.put_line-timing.auto.out)

pub put_line-requires : goal.put_line-requires
unfolding cue_size
put_line-requires c = omega (arith, c.put_line-timing.ensures.0, c.put_line-timing.auto.out, c.put_timing-lines.ensures.0, c.put_timing-lines.auto.out)

pub returns : goal.returns
unfolding cue_size
returns c =
    let a = c.args in
    let x = c.put_line-timing.ensures in
    let y = c.put_timing-lines.ensures in
    let z = c.put_line.ensures in
    (omega (arith, x.0, y.0, z.0), cue-written a.out.now _ _ _ (caption a.start a.end a.identifier.now a.settings.now a.payload.now) a.at _ _ (omega arith) x.1 y.1 z.1 x.0 y.0)
