-- `settings_put::put_word` meets its contract: the word alone, or behind a space.
use lib.ListN.{length-set}
use mathlib.Core.Path.{◌∙◌}
use native.Mathlib.Omega.{arith}
use Rattle.settings_put.proofs.Laws.{word_first, word-behind}
use Rattle.settings_put.proofs.put_word.Goals as goal

pub shape_of-out-then-at-eq0 : goal.shape_of-out-then-at-eq0
shape_of-out-then-at-eq0 c = c.put_text.auto.pool

pub returns-then-at-eq0 : goal.returns-then-at-eq0
returns-then-at-eq0 c = word_first _ _ _ _ _ c.if-at-eq0.true c.put_text.ensures.0 c.put_text.ensures.1

pub shape_of-out : goal.shape_of-out
shape_of-out c = c.put_text-2.auto.pool ∙ length-set c.args.out.now c.args.at 0x20

pub returns : goal.returns
returns c = word-behind _ _ _ _ _ c.if-at-eq0.false c.put_text-2.ensures.0 c.put_text-2.ensures.1 (omega arith)
