use Rattle.base.proofs.Results.{passed_on}
use mathlib.Core.Path.{sym, ◌∙◌}
use Rattle.tx3g_sample.proofs.Laws.{read-good, read-long, text-fine}
use Rattle.tx3g_read.specs.Sample.{content_of}
use Rattle.tx3g_read.proofs.Laws.{unread}
use Rattle.tx3g_read.proofs.read_content.Goals as goal

pub returns-in_err-characters : goal.returns-in_err-characters
unfolding content_of
returns-in_err-characters c = passed_on _ _ c.from_residual.ensures ∙ sym (unread _ _ _ (sym c.read_sample.ensures ∙ c.in_err-characters.was))

pub find_text-requires : goal.find_text-requires
find_text-requires c = text-fine _ (read-good _ _ _ (sym c.read_sample.ensures ∙ c.in_ok-characters.was)).text

pub find_styles-requires : goal.find_styles-requires
find_styles-requires c = sym c.read_sample.ensures ∙ c.in_ok-characters.was

pub has_blinking-requires : goal.has_blinking-requires
has_blinking-requires c = read-long _ _ _ (sym c.read_sample.ensures ∙ c.in_ok-characters.was)

pub returns : goal.returns
unfolding content_of
returns c = rw (← c.read_sample.ensures, c.in_ok-characters.was, c.find_text.ensures, c.find_styles.ensures, c.has_blinking.ensures)
