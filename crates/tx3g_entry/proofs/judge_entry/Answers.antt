-- `tx3g_entry::judge_entry` meets its contract: fixed fields, boxes, and the default font last.
use Rattle.base.proofs.Results.{passed_on}
use Rattle.tx3g_entry.proofs.Laws.{fixed-fine, boxes-fine}
use Rattle.tx3g_entry.specs.Entry.{judge_entry}
use mathlib.Core.Path.{ap, sym, ◌∙◌}
use Rattle.std.specs.Prelude.{Ok}
use Rattle.tx3g_entry.proofs.judge_entry.Goals as goal

pub returns-in_err-judge_fixed : goal.returns-in_err-judge_fixed
unfolding judge_entry
returns-in_err-judge_fixed c = passed_on _ _ c.from_residual.ensures ∙ sym (simp (← c.judge_fixed.ensures, c.in_err-judge_fixed.was))

pub returns-in_err-judge_boxes : goal.returns-in_err-judge_boxes
unfolding judge_entry
returns-in_err-judge_boxes c = passed_on _ _ c.from_residual-in_err-judge_boxes.ensures ∙ sym (simp (← c.judge_fixed.ensures, c.in_ok-judge_fixed.was, ← c.judge_boxes.ensures, c.in_err-judge_boxes.was))

pub judge_default-requires : goal.judge_default-requires
judge_default-requires c = (
  fixed-fine _ (sym c.judge_fixed.ensures ∙ c.in_ok-judge_fixed.was),
  boxes-fine _ _ (sym c.judge_boxes.ensures ∙ c.in_ok-judge_boxes.was) (sym c.find_fonts.ensures ∙ c.in_ok-fonts.was ∙ ap Ok c.in-Some.is),
)

pub returns-in_err-fonts : goal.returns-in_err-fonts
unfolding judge_entry
returns-in_err-fonts c = passed_on _ _ c.from_residual-in_err-fonts.ensures ∙ sym (rw (← c.judge_fixed.ensures, c.in_ok-judge_fixed.was, ← c.judge_boxes.ensures, c.in_ok-judge_boxes.was, ← c.find_fonts.ensures, c.in_err-fonts.was))

pub returns-in_default : goal.returns-in_default
unfolding judge_entry
returns-in_default c = c.refused.ensures ∙ sym (rw (← c.judge_fixed.ensures, c.in_ok-judge_fixed.was, ← c.judge_boxes.ensures, c.in_ok-judge_boxes.was, ← c.find_fonts.ensures, c.in_ok-fonts.was, c.in_default.is))

pub returns : goal.returns
unfolding judge_entry
returns c = c.judge_default.ensures ∙ sym (rw (← c.judge_fixed.ensures, c.in_ok-judge_fixed.was, ← c.judge_boxes.ensures, c.in_ok-judge_boxes.was, ← c.find_fonts.ensures, c.in_ok-fonts.was, c.in-Some.is))
