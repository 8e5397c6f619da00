use Rattle.base.proofs.Results.{passed_on}
use Rattle.wvtt.proofs.Laws.{at_most_one}
use Rattle.wvtt.specs.Sample.{in_sample, end_sample, judge_sample}
use Rattle.wvtt.specs.Kinds.{vttc, vtte}
use Rattle.boxes.proofs.Judging.{judged-box, judged-refused, judged-stop}
use Rattle.boxes.proofs.Laws.{step-box, not-box}
use Rattle.boxes.specs.declared.Step.TheVariants.{Box}
use Rattle.boxes.specs.Boxes.{step_at, times}
use lib.Dec.{eqb}
use lib.ListN.{length}
use native.Mathlib.Omega.{arith}
use mathlib.Core.List.{[], ◌∷◌}
use mathlib.Core.Path.{◌≡◌, refl, sym, ◌∙◌}
use Rattle.wvtt.proofs.judge_sample.Goals as goal

pub loop-kind-init : goal.loop-kind-init
unfolding judge_sample times
loop-kind-init c = ([], refl, refl, refl, omega arith, omega arith)

pub returns-in_default : goal.returns-in_default
returns-in_default c = let i = c.loop-kind.invariant in
    c.end_sample.ensures
    ∙ rw (i.1, i.2) (judged-stop (in_sample _) end_sample _ _ _ i.0 _ (sym c.step_at-t.ensures) (not-box c.step_at-t.result c.in_default.not-Box))
    ∙ i.3

pub judge_box-requires : goal.judge_box-requires
judge_box-requires c =
    let got : step_at c.args.s.now c.loop-kind.at (length c.args.s.now) ≡ Box c.in-Box.kind c.in-Box.body c.in-Box.next = sym c.step_at-t.ensures ∙ c.in-Box.is in
    (step-box _ _ _ _ _ _ (got)).inside

pub returns-in_err-judge_box : goal.returns-in_err-judge_box
returns-in_err-judge_box c =
    let got : step_at c.args.s.now c.loop-kind.at (length c.args.s.now) ≡ Box c.in-Box.kind c.in-Box.body c.in-Box.next = sym c.step_at-t.ensures ∙ c.in-Box.is in
    let i = c.loop-kind.invariant in
    passed_on _ _ c.from_residual.ensures ∙ sym c.in_err-judge_box.was ∙ judged-refused (in_sample _) end_sample _ _ _ i.0 _ _ _ _ _ (got) (c.judge_box.ensures i.0) c.in_err-judge_box.was ∙ i.3

pub count_kind-cues-requires : goal.count_kind-cues-requires
count_kind-cues-requires c =
    let got : step_at c.args.s.now c.loop-kind.at (length c.args.s.now) ≡ Box c.in-Box.kind c.in-Box.body c.in-Box.next = sym c.step_at-t.ensures ∙ c.in-Box.is in
    let w = step-box _ _ _ _ _ _ (got) in omega arith

pub count_kind-empties-requires : goal.count_kind-empties-requires
count_kind-empties-requires c =
    let got : step_at c.args.s.now c.loop-kind.at (length c.args.s.now) ≡ Box c.in-Box.kind c.in-Box.body c.in-Box.next = sym c.step_at-t.ensures ∙ c.in-Box.is in
    let w = step-box _ _ _ _ _ _ (got) in omega arith

pub loop-kind-smaller : goal.loop-kind-smaller
loop-kind-smaller c =
    let got : step_at c.args.s.now c.loop-kind.at (length c.args.s.now) ≡ Box c.in-Box.kind c.in-Box.body c.in-Box.next = sym c.step_at-t.ensures ∙ c.in-Box.is in
    let w = step-box _ _ _ _ _ _ (got) in omega arith

pub loop-kind-preserved : goal.loop-kind-preserved
unfolding times
loop-kind-preserved c =
    let got : step_at c.args.s.now c.loop-kind.at (length c.args.s.now) ≡ Box c.in-Box.kind c.in-Box.body c.in-Box.next = sym c.step_at-t.ensures ∙ c.in-Box.is in
    let i = c.loop-kind.invariant in
    let w = step-box _ _ _ _ _ _ (got) in (
      c.in-Box.kind ∷ i.0,
      rw (← i.1) c.count_kind-cues.ensures,
      rw (← i.2) c.count_kind-empties.ensures,
      judged-box (in_sample _) end_sample _ _ _ i.0 _ _ _ (got) (sym (c.judge_box.ensures i.0) ∙ c.in_ok-judge_box.was) ∙ i.3,
      omega (arith, c.count_kind-cues.ensures, at_most_one (eqb c.in-Box.kind vttc) c.loop-kind.cues),
      omega (arith, c.count_kind-empties.ensures, at_most_one (eqb c.in-Box.kind vtte) c.loop-kind.empties),
    )
