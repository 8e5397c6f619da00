-- An escape behind &, a timestamp behind <.
use native.Mathlib.Omega.{arith}
use mathlib.Core.Path.{subst⁻¹}
use Rattle.base.proofs.Results.{passed_on}
use Rattle.profile.specs.Spot.{Past, Bad}
use Rattle.profile_judge.specs.Part.{Part}
use Rattle.profile_judge.specs.Terms.{TextIs, Further}
use Rattle.profile_judge.proofs.Laws.{mark-escape, mark-time, mark-amiss, mark-timely}
use Rattle.profile_judge.proofs.read_mark.Goals as goal

pub returns-in_err-next : goal.returns-in_err-next
returns-in_err-next c =
    let a = c.args in
    subst⁻¹ (λ (r : Part). TextIs a.s.now a.at a.low r × Further a.at r) (passed_on _ _ c.from_residual.ensures) (mark-escape _ _ _ c.requires.0 c.if-s-at-eq38.true (Bad _) c.in_err-next.ensures)

pub returns-then-s-at-eq38 : goal.returns-then-s-at-eq38
returns-then-s-at-eq38 c = mark-escape _ _ _ c.requires.0 c.if-s-at-eq38.true (Past _) c.in_ok-next.ensures

pub returns-in_err-next-2 : goal.returns-in_err-next-2
returns-in_err-next-2 c =
    let a = c.args in
    subst⁻¹ (λ (r : Part). TextIs a.s.now a.at a.low r × Further a.at r) (passed_on _ _ c.from_residual-in_err-next-2.ensures)
    (mark-amiss _ _ _ c.requires.0 (mark-timely a.s.now a.at c.if-s-at-eq38.false c.requires).0 _ c.in_err-next-2.ensures, tt)

pub returns : goal.returns
returns c = mark-time _ _ _ c.requires.0 (mark-timely c.args.s.now c.args.at c.if-s-at-eq38.false c.requires).0 _ _ c.in_ok-next-2.ensures

pub read_time-requires : goal.read_time-requires
read_time-requires c = (mark-timely c.args.s.now c.args.at c.if-s-at-eq38.false c.requires).1

pub overflow_add-result : goal.overflow_add-result
overflow_add-result c = let k = c.in_ok-next-2.ensures in omega (arith, k.0)
