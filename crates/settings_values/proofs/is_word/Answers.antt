-- A text of the same length that agrees.
use mathlib.Core.Path.{◌∙◌}
use Rattle.settings_values.proofs.Laws.{same-begins, other_length}
use Rattle.settings_values.proofs.is_word.Goals as goal

pub returns-then-s-w : goal.returns-then-s-w
returns-then-s-w c = other_length _ _ c.if-s-w.true

pub returns : goal.returns
returns c = c.agrees.ensures ∙ same-begins _ _ c.if-s-w.false
