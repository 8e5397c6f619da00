use Rattle.conform.proofs.Laws.{next_one, left-some, left-none}
use Rattle.wvtt_cues.proofs.Walk.{next-none}
use mathlib.Core.Path.{◌∙◌, sym, ap}
use Rattle.std.proofs.Common.{Ok}
use Rattle.conform.proofs.none_left.Goals as goal

pub returns-in-Ok-Some : goal.returns-in-Ok-Some
returns-in-Ok-Some c = left-some _ _ _ _ (next_one _ _ _ _ _ c.next_cue.ensures (c.in-Ok-Some.is ∙ ap Ok c.in-Ok-Some.field-0-is))

pub returns-in-Ok-None : goal.returns-in-Ok-None
returns-in-Ok-None c = left-none _ _ (next-none _ _ _ (sym (c.in-Ok-None.is ∙ ap Ok c.in-Ok-None.field-0-is) ∙ c.next_cue.ensures) tt)

pub returns-in-Err : goal.returns-in-Err
returns-in-Err c = left-none _ _ (next-none _ _ _ (sym c.in-Err.is ∙ c.next_cue.ensures) tt)
