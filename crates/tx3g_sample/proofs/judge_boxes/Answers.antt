-- `tx3g_sample::judge_boxes` meets its contract: an entry without fault has its fonts.
use Rattle.std.specs.Prelude.{Ok}
use Rattle.tx3g_sample.proofs.Laws.{modifiers-at}
use Rattle.tx3g_entry.proofs.Laws.{fonts-lie, fonts-there}
use mathlib.Core.Path.{ap, sym, ◌∙◌}
use Rattle.tx3g_sample.proofs.judge_boxes.Goals as goal

pub returns-in_err-fonts : goal.returns-in_err-fonts
returns-in_err-fonts c = fonts-there _ _ c.requires.0 (sym c.in_err-fonts.was ∙ c.find_fonts.ensures) tt

pub returns-in_default : goal.returns-in_default
returns-in_default c = fonts-there _ _ c.requires.0 (sym (c.in_ok-fonts.was ∙ ap Ok c.in_default.is) ∙ c.find_fonts.ensures) tt

pub judge_modifiers-requires : goal.judge_modifiers-requires
judge_modifiers-requires c = fonts-lie _ _ c.requires.0 (sym c.find_fonts.ensures ∙ c.in_ok-fonts.was ∙ ap Ok c.in-Some.is)

pub returns : goal.returns
returns c = c.judge_modifiers.ensures ∙ modifiers-at _ _ _ _ _ (sym c.find_fonts.ensures ∙ c.in_ok-fonts.was ∙ ap Ok c.in-Some.is) c.text_end.ensures.0
