-- `tx3g_rules::judge_body` meets its contract.
use Rattle.base.proofs.Results.{passed_on}
use Rattle.tx3g_rules.specs.Rules.{judge_body}
use Rattle.bodies.proofs.Filled.{filled-fine}
use mathlib.Core.Path.{sym, ◌∙◌}
use Rattle.tx3g_rules.proofs.judge_body.Goals as goal

pub returns-in_err-judge_content : goal.returns-in_err-judge_content
unfolding judge_body
returns-in_err-judge_content c = passed_on _ _ c.from_residual.ensures ∙ sym (rw (← c.judge_content.ensures, c.in_err-judge_content.was))

pub judge_records-requires : goal.judge_records-requires
judge_records-requires c = (c.requires.0, rw (filled-fine _ _ _ (sym c.judge_content.ensures ∙ c.in_ok-judge_content.was)) c.requires.2)

pub returns : goal.returns
unfolding judge_body
returns c = rw (← c.judge_content.ensures, c.in_ok-judge_content.was) c.judge_records.ensures
