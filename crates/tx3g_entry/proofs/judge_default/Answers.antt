-- `tx3g_entry::judge_default` meets its contract: by the two cases of its test.
use mathlib.Core.Path.{◌∙◌}
use Rattle.tx3g_entry.proofs.judge_default.Goals as goal

pub returns-then-has_font : goal.returns-then-has_font
returns-then-has_font c = rw (← c.get16.ensures.0, ← c.has_font.ensures, c.if-has_font.true)

pub returns-else-has_font : goal.returns-else-has_font
returns-else-has_font c = c.refused.ensures ∙ rw (← c.get16.ensures.0, ← c.has_font.ensures, c.if-has_font.false)
