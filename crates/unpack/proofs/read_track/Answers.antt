use mathlib.Core.Path.{ap, sym, ◌∙◌, subst⁻¹}
use Rattle.base.proofs.Results.{passed_on}
use Rattle.unpack.specs.Rows.{ReadAs}
use native.Mathlib.Omega.{arith}
use Rattle.unpack.specs.Unpacked.{Refused}
use Rattle.unpack.proofs.Laws.{scale-refused, track-refused, read-done}
use Rattle.unpack.proofs.read_track.Goals as goal

pub returns-then-not-scale_allowed : goal.returns-then-not-scale_allowed
returns-then-not-scale_allowed c = ap Refused c.fault_at.ensures ∙ scale-refused _ _ _ (sym c.scale_allowed.ensures ∙ c.if-not-scale_allowed.true)

pub returns-in_err-judge_track : goal.returns-in_err-judge_track
returns-in_err-judge_track c = subst⁻¹ (ReadAs _ _ _ _) (passed_on _ _ c.from_residual.ensures)
    (track-refused _ _ _ (sym c.scale_allowed.ensures ∙ c.if-not-scale_allowed.false) _ (sym c.judge_track.ensures ∙ c.in_err-judge_track.was))

pub gather-requires : goal.gather-requires
gather-requires c = (sym c.judge_track.ensures ∙ c.in_ok-judge_track.was, c.requires)

pub returns : goal.returns
returns c = read-done _ _ _ (sym c.scale_allowed.ensures ∙ c.if-not-scale_allowed.false) (sym c.judge_track.ensures ∙ c.in_ok-judge_track.was) _ _ (omega (arith, c.gather.auto.tab, c.requires)) c.gather.ensures.0 c.gather.ensures.1
