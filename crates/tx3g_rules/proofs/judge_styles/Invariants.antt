-- `tx3g_rules::judge_styles` meets its contract. The invariant: the end before style k, and no fault before it.
use Rattle.tx3g_rules.specs.Rules.{end_before, judge_style}
use Rattle.tx3g_fonts.specs.Fonts.{has_font}
use Rattle.verdict.specs.Judgement.{each}
use Rattle.verdict.specs.Verdict.{Fine}
use mathlib.Core.Path.{◌≡◌}
use Rattle.tx3g_rules.proofs.judge_styles.Given as goal

abbrev pub invariant-loop-k : goal.invariant-loop-k
invariant-loop-k l = (l.previous ≡ end_before l.s l.body l.k) × (each (judge_style (has_font l.e l.fonts) l.characters l.s l.place l.body) l.k ≡ Fine)
