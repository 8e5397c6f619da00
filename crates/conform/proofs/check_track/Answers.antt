use Rattle.base.proofs.Results.{passed_on}
use Rattle.conform.specs.declared.Fault.TheVariants.{List as OfList, Track as OfTrack}
use Rattle.conform.specs.Conformance.{checked, of_track}
use Rattle.conform.proofs.Errors.{mapped, still-fine, list-refused, track-said}
use Rattle.cues.proofs.Sound.{fine-sound}
use mathlib.Core.Path.{◌∙◌, ap, sym}
use Rattle.conform.proofs.check_track.Goals as goal

pub returns-in_err-map_err : goal.returns-in_err-map_err
unfolding checked
returns-in_err-map_err c =
    let h = mapped OfList _ _ (λ e d p. p) c.map_err.ensures.cases in
    passed_on _ _ c.from_residual.ensures ∙ rw (← c.judge_list.ensures) (list-refused _ _ _ (sym h ∙ c.in_err-map_err.was))

pub check_beside-requires : goal.check_beside-requires
check_beside-requires c = fine-sound _ _ _ _ (sym c.judge_list.ensures ∙ still-fine _ _ (sym (mapped OfList _ _ (λ e d p. p) c.map_err.ensures.cases) ∙ c.in_ok-map_err.was))

pub returns : goal.returns
unfolding checked
returns c =
    let h = mapped OfTrack _ _ (λ e d p. p) c.map_err-2.ensures.cases in
    let q = still-fine _ _ (sym (mapped OfList _ _ (λ e d p. p) c.map_err.ensures.cases) ∙ c.in_ok-map_err.was) in
    h ∙ track-said _ ∙ ap of_track c.check_beside.ensures ∙ rw (← c.judge_list.ensures, q)
