use mathlib.Core.Path.{ap, ◌∙◌}
use Rattle.viable.specs.Judged.{Judged}
use Rattle.text.specs.Beginnings.{unended}
use Rattle.text.proofs.Begun.{label-judged}
use Rattle.text.proofs.judge_label.Goals as goal

pub returns : goal.returns
returns c = c.judge_end.ensures ∙ ap (λ (j : Judged). unended j c.args.s.now) c.judge_utf8.ensures ∙ label-judged _
