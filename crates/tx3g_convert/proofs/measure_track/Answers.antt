-- The track, then its cues.
use Rattle.base.proofs.Results.{passed_on}
use Rattle.std.proofs.Common.{Err}
use mathlib.Core.Path.{sym, ap, ◌∙◌}
use Rattle.tx3g_sample.proofs.Errors.{mapped, still-ok, err-back}
use Rattle.tx3g_convert.specs.declared.Fault.TheVariants.{Track as OfTrack}
use Rattle.tx3g_convert.proofs.Rooms.{bad-track}
use Rattle.tx3g_convert.proofs.measure_track.Goals as goal

pub measure_cues-requires : goal.measure_cues-requires
measure_cues-requires c =
    let p = c.requires in
    let fine = still-ok OfTrack _ _ (sym (mapped OfTrack _ _ (λ e d p. p) c.map_err.ensures.cases) ∙ c.in_ok-map_err.was) in
    (p.0, p.1, sym c.judge_stock.ensures ∙ fine, p.2)

pub returns-in_err-map_err : goal.returns-in_err-map_err
returns-in_err-map_err c =
    let p = c.requires in
    let bad = err-back OfTrack _ _ (sym (mapped OfTrack _ _ (λ e d p. p) c.map_err.ensures.cases) ∙ c.in_err-map_err.was) in
    passed_on _ _ c.from_residual.ensures ∙ ap Err bad.2 ∙ bad-track _ _ _ _ p.0 p.1 _ (sym c.judge_stock.ensures ∙ bad.1)
