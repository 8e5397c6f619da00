use mathlib.Core.Path.{sym, ◌∙◌}
use Rattle.utf8.specs.declared.Rule.TheVariants.{Line}
use Rattle.text.proofs.Marks.{clear-judged}
use Rattle.text.proofs.Begun.{identifier-judged}
use Rattle.text.proofs.judge_identifier.Goals as goal

pub returns-then-is_clear : goal.returns-then-is_clear
returns-then-is_clear c = clear-judged Line _ (λ j. (c.type_inv.s j).fits) (sym c.is_clear.ensures ∙ c.if-is_clear.true) ∙ identifier-judged _

pub returns-else-is_clear : goal.returns-else-is_clear
returns-else-is_clear c = c.judge_rule.ensures ∙ identifier-judged _
