use mathlib.Core.Path.{◌≡◌, refl, sym, ap, ◌∙◌}
use native.Mathlib.Omega.{arith}
use Rattle.base.proofs.Results.{passed_on}
use Rattle.verdict.specs.Judgement.{each}
use Rattle.verdict.proofs.Judgement.{each_more, each-stops}
use Rattle.cues.proofs.judge_records.Goals as goal

pub loop-i-init : goal.loop-i-init
unfolding each
loop-i-init c = refl

pub returns-in_err-judge_record : goal.returns-in_err-judge_record
returns-in_err-judge_record c = passed_on _ _ c.from_residual.ensures ∙ sym (each-stops _ _ _ _ c.loop-i-test.true c.loop-i.invariant (sym c.judge_record.ensures ∙ c.in_err-judge_record.was))

pub loop-i-preserved : goal.loop-i-preserved
loop-i-preserved c = each_more _ _ c.loop-i.invariant (sym c.judge_record.ensures ∙ c.in_ok-judge_record.was)

pub returns : goal.returns
returns c = let e : c.loop-i.i ≡ c.args.n = omega arith in sym c.loop-i.invariant ∙ ap (each _) e
