-- Scale and entry, then the track.
use Rattle.base.proofs.Results.{passed_on}
use Rattle.std.proofs.Common.{Err}
use Rattle.tx3g_sample.proofs.Errors.{mapped, still-ok, err-back}
use Rattle.tx3g_convert.specs.declared.Fault.TheVariants.{Entry as OfEntry}
use mathlib.Core.Path.{sym, ap, ◌∙◌}
use Rattle.tx3g_convert.specs.Converted.{BadTrack}
use Rattle.tx3g_convert.proofs.Rooms.{bad-scale, bad-entry}
use Rattle.tx3g_convert.proofs.measure.Goals as goal

pub returns-then-not-scale_allowed : goal.returns-then-not-scale_allowed
returns-then-not-scale_allowed c = ap BadTrack c.fault_at.ensures ∙ bad-scale _ _ _ _ (sym c.scale_allowed.ensures ∙ c.if-not-scale_allowed.true)

pub measure_track-requires : goal.measure_track-requires
measure_track-requires c =
    let fine = still-ok OfEntry _ _ (sym (mapped OfEntry _ _ (λ e d p. p) c.map_err.ensures.cases) ∙ c.in_ok-map_err.was) in
    (sym c.scale_allowed.ensures ∙ c.if-not-scale_allowed.false, sym c.judge_entry.ensures ∙ fine, c.requires)

pub returns-in_err-map_err : goal.returns-in_err-map_err
returns-in_err-map_err c =
    let bad = err-back OfEntry _ _ (sym (mapped OfEntry _ _ (λ e d p. p) c.map_err.ensures.cases) ∙ c.in_err-map_err.was) in
    passed_on _ _ c.from_residual.ensures ∙ ap Err bad.2 ∙ bad-entry _ _ _ _ (sym c.scale_allowed.ensures ∙ c.if-not-scale_allowed.false) _ (sym c.judge_entry.ensures ∙ bad.1)
