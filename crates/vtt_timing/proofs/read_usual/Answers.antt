-- The times at their places, and the settings behind them.
use mathlib.Core.Path.{sym, ◌∙◌}
use native.Mathlib.Omega.{arith}
use Rattle.vtt_timing.proofs.Usual.{usual-times}
use Rattle.vtt_timing.proofs.read_usual.Goals as goal

pub slice_bounds-read_timestamp-end : goal.slice_bounds-read_timestamp-end
slice_bounds-read_timestamp-end c = omega (arith, (c.is_usual.ensures c.if-not-is_usual.false).long)

pub slice_bounds-read_timestamp-end-2 : goal.slice_bounds-read_timestamp-end-2
slice_bounds-read_timestamp-end-2 c = omega (arith, (c.is_usual.ensures c.if-not-is_usual.false).long)

pub pass_run-from-requires : goal.pass_run-from-requires
pass_run-from-requires c = (c.is_usual.ensures c.if-not-is_usual.false).long

pub returns : goal.returns
returns c =
    usual-times _ (c.is_usual.ensures c.if-not-is_usual.false) _ _ _ _
    (sym c.in_ok-start.was ∙ c.read_timestamp.ensures) (sym c.in_ok-end.was ∙ c.read_timestamp-2.ensures) c.pass_run-from.ensures.0 c.trim_end-to.ensures
