use mathlib.Core.Path.{sym, ap, ◌∙◌}
use Rattle.viable.specs.Judged.{Judged}
use Rattle.text.specs.Beginnings.{unended}
use Rattle.text.proofs.Begun.{payload-front, payload-judged}
use Rattle.text.proofs.judge_payload.Goals as goal

pub returns-then-begins_line : goal.returns-then-begins_line
returns-then-begins_line c = payload-front _ (sym c.begins_line.ensures ∙ c.if-begins_line.true)

pub returns-else-begins_line : goal.returns-else-begins_line
returns-else-begins_line c = c.judge_end.ensures ∙ ap (λ (j : Judged). unended j c.args.s.now) c.judge_inside.ensures ∙ payload-judged _ (sym c.begins_line.ensures ∙ c.if-begins_line.false)
