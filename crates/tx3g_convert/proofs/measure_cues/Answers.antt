-- The last state gives T and the numbers.
use Rattle.base.proofs.Results.{passed_on}
use Rattle.std.proofs.Common.{Err}
use Rattle.tx3g_sample.proofs.Errors.{mapped, still-ok, err-back}
use Rattle.tx3g_convert.specs.declared.Fault.TheVariants.{Track as OfTrack}
use mathlib.Core.Path.{◌≡◌, sym, ap, ◌∙◌, subst}
use mathlib.Core.Bool.{true}
use native.Mathlib.Omega.{arith}
use Rattle.times.specs.Times.{back, timeline_allowed}
use Rattle.times.proofs.Laws.{timeline-limits}
use Rattle.tx3g_convert.specs.Converted.{BadTrack}
use Rattle.tx3g_convert.specs.Terms.{Ended, MeasuredIs}
use Rattle.tx3g_convert.proofs.Rooms.{scale-some, bad-told, bad-total, room-done}
use Rattle.tx3g_convert.proofs.measure_cues.Goals as goal

pub take_samples-requires : goal.take_samples-requires
take_samples-requires c = let p = c.requires in (scale-some _ p.0, p.1, p.2, p.3)

pub total_allowed-requires : goal.total_allowed-requires
total_allowed-requires c =
    let ended : Ended c.args.scale c.args.e.now c.args.table.now c.args.samples.now c.in_ok-last.last = subst (MeasuredIs c.args.scale c.args.e.now c.args.table.now c.args.samples.now) (still-ok OfTrack _ _ (sym (mapped OfTrack _ _ (λ e d p. p) c.map_err.ensures.cases) ∙ c.in_ok-last.was)) c.take_samples.ensures in
    (scale-some _ c.requires.0, omega (arith, ended.low.ticks))

pub returns-then-not-total_allowed : goal.returns-then-not-total_allowed
returns-then-not-total_allowed c =
    let ended : Ended c.args.scale c.args.e.now c.args.table.now c.args.samples.now c.in_ok-last.last = subst (MeasuredIs c.args.scale c.args.e.now c.args.table.now c.args.samples.now) (still-ok OfTrack _ _ (sym (mapped OfTrack _ _ (λ e d p. p) c.map_err.ensures.cases) ∙ c.in_ok-last.was)) c.take_samples.ensures in
    let p = c.requires in
    ap BadTrack c.fault_at.ensures ∙ bad-total _ _ _ _ p.0 p.1 p.2 _ ended (sym c.total_allowed.ensures ∙ c.if-not-total_allowed.true)

pub overflow_mul-result : goal.overflow_mul-result
overflow_mul-result c =
    let ended : Ended c.args.scale c.args.e.now c.args.table.now c.args.samples.now c.in_ok-last.last = subst (MeasuredIs c.args.scale c.args.e.now c.args.table.now c.args.samples.now) (still-ok OfTrack _ _ (sym (mapped OfTrack _ _ (λ e d p. p) c.map_err.ensures.cases) ∙ c.in_ok-last.was)) c.take_samples.ensures in
    record { fits = omega (arith, ended.low.few) }

pub ms_of-requires : goal.ms_of-requires
ms_of-requires c =
    let ended : Ended c.args.scale c.args.e.now c.args.table.now c.args.samples.now c.in_ok-last.last = subst (MeasuredIs c.args.scale c.args.e.now c.args.table.now c.args.samples.now) (still-ok OfTrack _ _ (sym (mapped OfTrack _ _ (λ e d p. p) c.map_err.ensures.cases) ∙ c.in_ok-last.was)) c.take_samples.ensures in
    (scale-some _ c.requires.0, omega (arith, ended.low.ticks))

pub overflow_cast-result : goal.overflow_cast-result
overflow_cast-result c =
    let allowed : timeline_allowed c.args.scale (back c.args.scale c.in_ok-last.last.tick) ≡ true = sym c.total_allowed.ensures ∙ c.if-not-total_allowed.false in
    record { fits = omega (arith, (timeline-limits _ _ allowed).time_most, c.ms_of.ensures.0) }

pub returns-in_err-last : goal.returns-in_err-last
returns-in_err-last c =
    let p = c.requires in
    let bad = err-back OfTrack _ _ (sym (mapped OfTrack _ _ (λ e d p. p) c.map_err.ensures.cases) ∙ c.in_err-last.was) in
    passed_on _ _ c.from_residual.ensures ∙ ap Err bad.2 ∙ bad-told _ _ _ _ p.0 p.1 p.2 _ (subst (MeasuredIs c.args.scale c.args.e.now c.args.table.now c.args.samples.now) bad.1 c.take_samples.ensures)

pub returns : goal.returns
returns c =
    let ended : Ended c.args.scale c.args.e.now c.args.table.now c.args.samples.now c.in_ok-last.last = subst (MeasuredIs c.args.scale c.args.e.now c.args.table.now c.args.samples.now) (still-ok OfTrack _ _ (sym (mapped OfTrack _ _ (λ e d p. p) c.map_err.ensures.cases) ∙ c.in_ok-last.was)) c.take_samples.ensures in
    let allowed : timeline_allowed c.args.scale (back c.args.scale c.in_ok-last.last.tick) ≡ true = sym c.total_allowed.ensures ∙ c.if-not-total_allowed.false in
    let p = c.requires in
    room-done _ _ _ _ p.0 p.1 p.2 _ ended allowed _ _ c.ms_of.ensures.0 c.count_stock.ensures
