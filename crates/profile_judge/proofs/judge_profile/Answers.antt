-- Limit, payload rule, profile.
use borrow.Author.Tests.{lt-ltb}
use mathlib.Core.Path.{refl, sym, ◌∙◌}
use Rattle.base.proofs.Results.{passed_on}
use Rattle.profile_judge.specs.Judgement.{judge_profile}
use lib.ListN.{length}
use native.Mathlib.Omega.{arith}
use Rattle.profile_judge.proofs.Laws.{text-first, tags-last}
use Rattle.profile_judge.proofs.judge_profile.Goals as goal

pub returns-then-payload-gt4095 : goal.returns-then-payload-gt4095
unfolding judge_profile
returns-then-payload-gt4095 c = rw (lt-ltb 4095 (length c.args.payload.now) (omega arith)) c.refused.ensures

pub returns-in_err-text_at : goal.returns-in_err-text_at
returns-in_err-text_at c = passed_on _ _ c.from_residual.ensures ∙ text-first c.args.payload.now (omega arith) _ _ _ c.judge_payload.ensures (sym c.in_err-text_at.was ∙ c.text_at.ensures) refl

pub returns : goal.returns
returns c = tags-last c.args.payload.now (omega arith) _ _ _ _ c.judge_payload.ensures c.text_at.ensures c.in_ok-text_at.was c.judge_tags.ensures c.outside_at.ensures
