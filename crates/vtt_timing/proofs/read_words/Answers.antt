-- Word by word: a time, the arrow, a time, and the settings.
use mathlib.Core.Path.{refl, sym, ◌∙◌}
use Rattle.vtt_timing.proofs.Laws.{between-room, no_arrow, no_start, no_end, times-in}
use Rattle.vtt_timing.proofs.read_words.Goals as goal

pub returns-then-not-is_between : goal.returns-then-not-is_between
returns-then-not-is_between c =
    no_arrow _ _ _ _ _ c.pass_run-first.ensures.0 c.pass_run-arrow.ensures.0 refl refl (sym c.is_between.ensures ∙ c.if-not-is_between.true)

pub pass_run-second-requires : goal.pass_run-second-requires
pass_run-second-requires c = between-room _ _ (sym c.is_between.ensures ∙ c.if-not-is_between.false)

pub returns-in_err-start : goal.returns-in_err-start
returns-in_err-start c =
    rw c.from_residual.ensures (no_start _ _ _ _ _ c.pass_run-first.ensures.0 c.pass_run-arrow.ensures.0 c.pass_run-second.ensures.0 c.pass_run-rest.ensures.0
    (sym c.in_err-start.was ∙ c.read_timestamp.ensures))

pub returns-in_err-end : goal.returns-in_err-end
returns-in_err-end c =
    rw c.from_residual-in_err-end.ensures (no_end _ _ _ _ _ c.pass_run-first.ensures.0 c.pass_run-arrow.ensures.0 c.pass_run-second.ensures.0 c.pass_run-rest.ensures.0
    (sym c.in_err-end.was ∙ c.read_timestamp-2.ensures))

pub returns : goal.returns
returns c =
    times-in _ _ _ _ _ c.pass_run-first.ensures.0 c.pass_run-arrow.ensures.0 c.pass_run-second.ensures.0 c.pass_run-rest.ensures.0 _ _ _ _
    (sym c.is_between.ensures ∙ c.if-not-is_between.false)
    (sym c.in_ok-start.was ∙ c.read_timestamp.ensures) (sym c.in_ok-end.was ∙ c.read_timestamp-2.ensures)
    c.pass_run-from.ensures.0 c.trim_end-to.ensures
