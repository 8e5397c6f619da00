-- The lengths of the three texts, with what stands beside them.
use mathlib.Core.Path.{◌∙◌, ap}
use native.Mathlib.Omega.{arith}
use Rattle.vtt_write.specs.Steps.{line_size}
use Rattle.vtt_write.proofs.Laws.{cue-first, cue-later}
use Rattle.vtt_write.proofs.cue_size.Goals as goal

pub returns-then-i-eq0 : goal.returns-then-i-eq0
returns-then-i-eq0 c =
    let x = c.line_size-identifier.ensures in
    let y = c.line_size-settings.ensures in
    let z = c.line_size-payload.ensures in
    (cue-first _ _ _ _ _ _ _ (x.0 ∙ ap line_size c.identifier_length.ensures.0) (y.0 ∙ ap line_size c.settings_length.ensures.0) (z.0 ∙ ap line_size c.payload_length.ensures.0) c.if-i-eq0.true, omega arith)

pub returns-else-i-eq0 : goal.returns-else-i-eq0
returns-else-i-eq0 c =
    let x = c.line_size-identifier.ensures in
    let y = c.line_size-settings.ensures in
    let z = c.line_size-payload.ensures in
    (cue-later _ _ _ _ _ _ _ (x.0 ∙ ap line_size c.identifier_length.ensures.0) (y.0 ∙ ap line_size c.settings_length.ensures.0) (z.0 ∙ ap line_size c.payload_length.ensures.0) c.if-i-eq0.false, omega arith)
