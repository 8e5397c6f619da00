-- The word by its agreeing bytes, and then nothing or a blank.
use mathlib.Core.Path.{sym, ◌∙◌}
use native.Mathlib.Omega.{arith}
use Rattle.vtt_blocks.proofs.Words.{other-opens, word-alone, word-opens}
use Rattle.vtt_blocks.proofs.opens_with.Goals as goal

pub returns-then-agreeing-n : goal.returns-then-agreeing-n
returns-then-agreeing-n c = sym (other-opens _ _ (omega (arith, c.agreeing.ensures.0, c.if-agreeing-n.true)))

pub returns-then-line-n : goal.returns-then-line-n
returns-then-line-n c = sym (word-alone _ _ (omega (arith, c.agreeing.ensures.0, c.if-agreeing-n.false)) c.if-line-n.true)

pub returns : goal.returns
returns c = c.is_blank.ensures ∙ sym (word-opens _ _ (omega (arith, c.agreeing.ensures.0, c.if-agreeing-n.false)) c.if-line-n.false)
