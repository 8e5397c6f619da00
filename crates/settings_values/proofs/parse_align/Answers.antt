-- Word by word.
use Rattle.settings.specs.Reading.{word_in}
use Rattle.settings_values.proofs.parse_align.Goals as goal

pub returns-then-is_word : goal.returns-then-is_word
unfolding word_in
returns-then-is_word c = rw (← c.is_word.ensures, c.if-is_word.true)

pub returns-then-is_word-2 : goal.returns-then-is_word-2
unfolding word_in
returns-then-is_word-2 c = rw (← c.is_word.ensures, c.if-is_word.false, ← c.is_word-2.ensures, c.if-is_word-2.true)

pub returns-then-is_word-3 : goal.returns-then-is_word-3
unfolding word_in
returns-then-is_word-3 c = rw (← c.is_word.ensures, c.if-is_word.false, ← c.is_word-2.ensures, c.if-is_word-2.false, ← c.is_word-3.ensures, c.if-is_word-3.true)

pub returns-then-is_word-4 : goal.returns-then-is_word-4
unfolding word_in
returns-then-is_word-4 c = rw (← c.is_word.ensures, c.if-is_word.false, ← c.is_word-2.ensures, c.if-is_word-2.false, ← c.is_word-3.ensures, c.if-is_word-3.false, ← c.is_word-4.ensures, c.if-is_word-4.true)

pub returns-then-is_word-5 : goal.returns-then-is_word-5
unfolding word_in
returns-then-is_word-5 c = rw (← c.is_word.ensures, c.if-is_word.false, ← c.is_word-2.ensures, c.if-is_word-2.false, ← c.is_word-3.ensures, c.if-is_word-3.false, ← c.is_word-4.ensures, c.if-is_word-4.false, ← c.is_word-5.ensures, c.if-is_word-5.true)

pub returns : goal.returns
unfolding word_in
returns c = rw (← c.is_word.ensures, c.if-is_word.false, ← c.is_word-2.ensures, c.if-is_word-2.false, ← c.is_word-3.ensures, c.if-is_word-3.false, ← c.is_word-4.ensures, c.if-is_word-4.false, ← c.is_word-5.ensures, c.if-is_word-5.false)
