-- The configuration, then the list, then the lengths.
use mathlib.Core.Path.{sym, ap, ◌∙◌}
use Rattle.base.proofs.Results.{passed_on}
use Rattle.verdict.specs.Judgement.{text_at}
use Rattle.vtt_write.specs.declared.Fault.TheVariants.{Configuration as OfConfiguration, List as OfList}
use Rattle.vtt_write.proofs.Answers.{mapped, still-fine, list-sound, room-first, room-second, room-done}
use Rattle.vtt_write.proofs.write_room.Goals as goal

pub returns-in_err-map_err : goal.returns-in_err-map_err
returns-in_err-map_err c =
    let h = mapped OfConfiguration _ _ (λ e d p. p) c.map_err.ensures.cases in
    passed_on _ _ c.from_residual.ensures ∙ room-first _ _ _ _ _ (c.text_at.ensures ∙ ap (text_at 0) c.judge_configuration.ensures) (sym h ∙ c.in_err-map_err.was)

pub returns-in_err-map_err-2 : goal.returns-in_err-map_err-2
returns-in_err-map_err-2 c =
    let f = still-fine OfConfiguration _ _ (sym (mapped OfConfiguration _ _ (λ e d p. p) c.map_err.ensures.cases) ∙ c.in_ok-map_err.was) in
    let h = mapped OfList _ _ (λ e d p. p) c.map_err-2.ensures.cases in
    passed_on _ _ c.from_residual-in_err-map_err-2.ensures ∙ room-second _ _ _ _ _ (sym (c.text_at.ensures ∙ ap (text_at 0) c.judge_configuration.ensures) ∙ f) c.judge_list.ensures (sym h ∙ c.in_err-map_err-2.was)

pub cues_size-requires : goal.cues_size-requires
cues_size-requires c = (list-sound _ _ (sym c.judge_list.ensures ∙ still-fine OfList _ _ (sym (mapped OfList _ _ (λ e d p. p) c.map_err-2.ensures.cases) ∙ c.in_ok-map_err-2.was))).few

pub returns : goal.returns
returns c =
    let f = still-fine OfConfiguration _ _ (sym (mapped OfConfiguration _ _ (λ e d p. p) c.map_err.ensures.cases) ∙ c.in_ok-map_err.was) in
    let g = still-fine OfList _ _ (sym (mapped OfList _ _ (λ e d p. p) c.map_err-2.ensures.cases) ∙ c.in_ok-map_err-2.was) in
    room-done _ _ _ _ (sym (c.text_at.ensures ∙ ap (text_at 0) c.judge_configuration.ensures) ∙ f) (sym c.judge_list.ensures ∙ g) c.cues_size.ensures.0
