-- Word by word.
use mathlib.Core.Path.{sym, ◌∙◌}
use Rattle.settings.specs.Reading.{word_in}
use Rattle.settings_values.proofs.Laws.{position-unaligned}
use Rattle.settings_values.specs.Terms.{percent_or}
use Rattle.settings_values.proofs.align_position.Goals as goal

pub returns-then-is_word : goal.returns-then-is_word
unfolding word_in
returns-then-is_word c = c.position_with.ensures ∙ rw (← c.is_word.ensures, c.if-is_word.true)

pub returns-then-is_word-2 : goal.returns-then-is_word-2
unfolding word_in
returns-then-is_word-2 c = c.position_with-then-is_word-2.ensures ∙ rw (← c.is_word.ensures, c.if-is_word.false, ← c.is_word-2.ensures, c.if-is_word-2.true)

pub returns-then-is_word-3 : goal.returns-then-is_word-3
unfolding word_in
returns-then-is_word-3 c = c.position_with-then-is_word-3.ensures ∙ rw (← c.is_word.ensures, c.if-is_word.false, ← c.is_word-2.ensures, c.if-is_word-2.false, ← c.is_word-3.ensures, c.if-is_word-3.true)

pub returns : goal.returns
unfolding word_in
returns c = rw (← c.is_word.ensures, c.if-is_word.false, ← c.is_word-2.ensures, c.if-is_word-2.false, ← c.is_word-3.ensures, c.if-is_word-3.false) (sym (position-unaligned (percent_or c.args.at)))
