use Rattle.std.proofs.Common.{Ok}
use Rattle.conform.proofs.Laws.{next_one, met-none, met-same, met-other}
use Rattle.conform.proofs.Errors.{ok-some, ok-none}
use Rattle.wvtt_cues.proofs.Walk.{next-none}
use mathlib.Core.Path.{◌∙◌, sym, ap}
use Rattle.conform.proofs.take_cue.Goals as goal

pub returns-in_err-ok : goal.returns-in_err-ok
returns-in_err-ok c = rw c.from_residual.ensures (λ f. met-none _ _ _ f (next-none _ _ _ c.next_cue.ensures (ok-none _ (sym c.ok.ensures.value ∙ c.in_err-ok.was))))

pub returns-in_err-parts : goal.returns-in_err-parts
returns-in_err-parts c = rw c.from_residual-in_err-parts.ensures (λ f. met-none _ _ _ f (next-none _ _ _ (sym (ok-some _ _ (sym c.ok.ensures.value ∙ c.in_ok-ok.was) ∙ ap Ok c.in_err-parts.was) ∙ c.next_cue.ensures) tt))

pub same_cue-requires : goal.same_cue-requires
same_cue-requires c = (c.requires.0, c.requires.1, (next_one _ _ _ _ _ c.next_cue.ensures (ok-some _ _ (sym c.ok.ensures.value ∙ c.in_ok-ok.was) ∙ ap Ok c.in_ok-parts.was)).inside)

pub returns-then-same_cue : goal.returns-then-same_cue
returns-then-same_cue c = λ f. met-same _ _ _ f _ _ (next_one _ _ _ _ _ c.next_cue.ensures (ok-some _ _ (sym c.ok.ensures.value ∙ c.in_ok-ok.was) ∙ ap Ok c.in_ok-parts.was)) (sym c.if-same_cue.true ∙ c.same_cue.ensures)

pub returns-else-same_cue : goal.returns-else-same_cue
returns-else-same_cue c = λ f. met-other _ _ _ f _ _ (next_one _ _ _ _ _ c.next_cue.ensures (ok-some _ _ (sym c.ok.ensures.value ∙ c.in_ok-ok.was) ∙ ap Ok c.in_ok-parts.was)) (sym c.if-same_cue.false ∙ c.same_cue.ensures)
