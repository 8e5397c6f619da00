-- `tx3g_style::style_at` meets its contract.
use Rattle.base.proofs.Results.{passed_on}
use Rattle.tx3g_style.proofs.Laws.{unread}
use Rattle.tx3g_style.specs.Style.{style_of}
use borrow.Author.Tests.{lt-ltb, le-ltb}
use mathlib.Core.Path.{sym, ◌∙◌}
use Rattle.tx3g_style.proofs.style_at.Goals as goal

pub returns-in_err-characters : goal.returns-in_err-characters
unfolding style_of
returns-in_err-characters c = passed_on _ _ c.from_residual.ensures ∙ sym (unread _ _ _ _ _ (sym c.read_sample.ensures ∙ c.in_err-characters.was))

pub style_in_force-requires : goal.style_in_force-requires
style_in_force-requires c = sym c.read_sample.ensures ∙ c.in_ok-characters.was

pub returns-then-k-characters : goal.returns-then-k-characters
unfolding style_of
returns-then-k-characters c = rw (← c.read_sample.ensures, c.in_ok-characters.was, lt-ltb _ _ c.if-k-characters.true) c.style_in_force.ensures

pub returns-else-k-characters : goal.returns-else-k-characters
unfolding style_of
returns-else-k-characters c = rw (← c.read_sample.ensures, c.in_ok-characters.was, le-ltb _ _ c.if-k-characters.false, c.fault_at.ensures)
