use mathlib.Core.Path.{sym, ◌∙◌}
use Rattle.utf8.specs.Utf8.{utf8, utf8_begun}
use Rattle.utf8.proofs.Machine.{ascii-utf8}
use Rattle.viable.proofs.FirstBad.{judged-right}
use Rattle.text.proofs.Begun.{utf8-judged}
use Rattle.text.proofs.judge_utf8.Goals as goal

pub returns-then-is_ascii : goal.returns-then-is_ascii
returns-then-is_ascii c = judged-right utf8 utf8_begun _ (sym (ascii-utf8 _ (λ j. (c.type_inv.s j).fits) (sym c.is_ascii.ensures ∙ c.if-is_ascii.true)))

pub returns-else-is_ascii : goal.returns-else-is_ascii
returns-else-is_ascii c = c.judge_rule.ensures ∙ utf8-judged _
