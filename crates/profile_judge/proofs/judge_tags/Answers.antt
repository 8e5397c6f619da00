-- From the answer of the outermost content.
use mathlib.Core.Path.{◌∙◌}
use Rattle.base.proofs.Results.{passed_on}
use Rattle.profile_judge.proofs.Laws.{plain-whole, whole-right, whole-wrong}
use Rattle.profile_judge.proofs.judge_tags.Goals as goal

pub returns-then-is_plain : goal.returns-then-is_plain
returns-then-is_plain c = plain-whole _ (c.is_plain.ensures c.if-is_plain.true)

pub returns-in_err-read_content : goal.returns-in_err-read_content
returns-in_err-read_content c = passed_on _ _ c.from_residual.ensures ∙ whole-wrong _ _ c.in_err-read_content.ensures

pub returns : goal.returns
returns c = whole-right _ c.in_ok-read_content.field-0.0 c.in_ok-read_content.field-0.1 c.in_ok-read_content.ensures
