use mathlib.Core.Path.{◌∙◌}
use Rattle.text.specs.Rules.{webvtt}
use Rattle.text.proofs.Begun.{configuration-off, configuration-judged}
use Rattle.text.proofs.judge_configuration.Goals as goal

pub returns-then-n-lt6 : goal.returns-then-n-lt6
unfolding webvtt
returns-then-n-lt6 c = configuration-off _ _ c.agreeing-n.ensures.0 c.if-n-lt6.true

pub returns-else-n-lt6 : goal.returns-else-n-lt6
unfolding webvtt
returns-else-n-lt6 c = c.judge_label.ensures ∙ configuration-judged _ _ c.agreeing-n.ensures.0 c.if-n-lt6.false
