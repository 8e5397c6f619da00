use Rattle.base.proofs.Results.{passed_on}
use Rattle.std.specs.Prelude.{Ok}
use mathlib.Core.Path.{sym, ap, ◌∙◌}
use native.Mathlib.Omega.{arith}
use Rattle.fields.specs.BigEndian.{be}
use Rattle.tx3g_fonts.proofs.Laws.{fonts-from}
use Rattle.tx3g_entry.proofs.Laws.{entry-fine, fonts-lie}
use Rattle.tx3g_read.specs.Entry.{read_entry}
use Rattle.tx3g_read.proofs.read_entry.Goals as goal

pub returns-in_err-judge_entry : goal.returns-in_err-judge_entry
unfolding read_entry
returns-in_err-judge_entry c = passed_on _ _ c.from_residual.ensures ∙ sym (rw (← c.judge_entry.ensures, c.in_err-judge_entry.was))

pub returns-in_err-fonts : goal.returns-in_err-fonts
unfolding read_entry
returns-in_err-fonts c = passed_on _ _ c.from_residual-in_err-fonts.ensures ∙ sym (rw (← c.judge_entry.ensures, c.in_ok-judge_entry.was, ← c.find_fonts.ensures, c.in_err-fonts.was))

pub returns-in_default : goal.returns-in_default
unfolding read_entry
returns-in_default c = rw (← c.judge_entry.ensures, c.in_ok-judge_entry.was, ← c.find_fonts.ensures, c.in_ok-fonts.was, c.in_default.is, c.fault_at.ensures)

pub read_fields-requires : goal.read_fields-requires
read_fields-requires c = let e = c.args.e.now in
    let fine = sym c.judge_entry.ensures ∙ c.in_ok-judge_entry.was in
    let found = sym c.find_fonts.ensures ∙ c.in_ok-fonts.was ∙ ap Ok c.in-Some.is in
    ((entry-fine e fine).long, omega (arith, fonts-lie e c.in-Some.fonts fine found, fonts-from e c.in-Some.fonts (be 2 e c.in-Some.fonts)))

pub returns : goal.returns
unfolding read_entry
returns c = rw (← c.judge_entry.ensures, c.in_ok-judge_entry.was, ← c.find_fonts.ensures, c.in_ok-fonts.was, c.in-Some.is, c.read_fields.ensures)
