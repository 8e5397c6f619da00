-- The limit, then the words, and the rule where it can be broken.
use mathlib.Core.Path.{sym, ◌∙◌}
use native.Mathlib.Omega.{arith}
use lib.ListN.{length}
use borrow.Author.Tests.{lt-ltb}
use Rattle.base.proofs.Choice.{true-false}
use Rattle.base.proofs.Results.{passed_on}
use Rattle.settings.specs.Reading.{read_settings}
use Rattle.settings_read.proofs.Laws.{judged-good, judged-faulty, plainly-read}
use Rattle.settings_read.proofs.read_settings.Goals.{in-Ok, in_default-2, in_default}
use Rattle.settings_read.proofs.read_settings.Goals as goal

pub returns-then-text-gt255 : goal.returns-then-text-gt255
unfolding read_settings
returns-then-text-gt255 c = rw (c.fault_at.ensures, lt-ltb 255 (length c.args.text.now) c.if-text-gt255.true)

pub returns-then-matches : goal.returns-then-matches
returns-then-matches c = elim c.match-matches.branch [
  | in-Ok w ↦ w.answer-is ∙ plainly-read c.args.text.now c.if-text-gt255.false _ (sym c.read_words-answer.ensures ∙ w.in-Ok.is) (omega arith)
  | in_default-2 w ↦ true-false _ c.if-matches.true w.matches-is
  | in_default w ↦ true-false _ c.if-matches.true w.matches-is
]

pub returns-in_err-text_at : goal.returns-in_err-text_at
returns-in_err-text_at c = passed_on _ _ c.from_residual.ensures ∙ judged-faulty c.args.text.now c.if-text-gt255.false _ _ _ c.judge_identifier.ensures c.text_at.ensures c.in_err-text_at.was

pub returns : goal.returns
returns c =
    judged-good c.args.text.now c.if-text-gt255.false _ _ _ c.judge_identifier.ensures c.text_at.ensures c.in_ok-text_at.was
    (elim c.match-matches.branch [
      | in-Ok w ↦ w.answer-is ∙ sym w.in-Ok.is ∙ c.read_words-answer.ensures
      | in_default-2 w ↦ w.answer-is ∙ sym w.in-Ok.is ∙ c.read_words-answer.ensures
      | in_default w ↦ w.answer-is ∙ c.read_words-answer.ensures
    ])
