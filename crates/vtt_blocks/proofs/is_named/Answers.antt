-- The word by its agreeing bytes, and then blanks.
use mathlib.Core.Path.{sym, ◌∙◌}
use native.Mathlib.Omega.{arith}
use Rattle.vtt_blocks.proofs.Words.{other-names, word-names, word-inside}
use Rattle.vtt_blocks.proofs.is_named.Goals as goal

pub returns-then-agreeing-n : goal.returns-then-agreeing-n
returns-then-agreeing-n c = sym (other-names _ _ (omega (arith, c.agreeing.ensures.0, c.if-agreeing-n.true)))

pub is_blank_from-requires : goal.is_blank_from-requires
is_blank_from-requires c = word-inside c.args.word.now c.args.line.now (omega (arith, c.agreeing.ensures.0, c.if-agreeing-n.false))

pub returns : goal.returns
returns c = c.is_blank_from.ensures ∙ sym (word-names _ _ (omega (arith, c.agreeing.ensures.0, c.if-agreeing-n.false)))
