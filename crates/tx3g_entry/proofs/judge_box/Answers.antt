-- `tx3g_entry::judge_box` meets its contract.
use Rattle.tx3g_entry.specs.Entry.{in_entry}
use borrow.Author.Tests.{eq-eqb, ne_eqb}
use Rattle.tx3g_entry.proofs.judge_box.Goals as goal

pub returns-then-kind-ne-FTAB : goal.returns-then-kind-ne-FTAB
unfolding in_entry
returns-then-kind-ne-FTAB c = λ before m. simp (ne_eqb _ _ c.if-kind-ne-FTAB.true)

pub returns-then-seen : goal.returns-then-seen
unfolding in_entry
returns-then-seen c = λ before m. simp (eq-eqb _ _ c.if-kind-ne-FTAB.false, ← m, c.if-seen.true, c.refused.ensures)

pub returns-else-seen : goal.returns-else-seen
unfolding in_entry
returns-else-seen c = λ before m. simp (eq-eqb _ _ c.if-kind-ne-FTAB.false, ← m, c.if-seen.false, c.judge_fonts.ensures)
