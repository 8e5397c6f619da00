-- `tx3g_entry::has_defaults` meets its contract.
use Rattle.tx3g_entry.specs.Entry.{plain_entry}
use Rattle.base.proofs.Choice.{true-false}
use mathlib.Core.Path.{◌∙◌}
use Rattle.tx3g_entry.proofs.has_defaults.Goals.{then-is_ordered, else-is_ordered}
use Rattle.tx3g_entry.proofs.has_defaults.Goals as goal

pub returns-then-get16-eq0 : goal.returns-then-get16-eq0
unfolding plain_entry
returns-then-get16-eq0 c = elim c.if-is_ordered.branch [
  | then-is_ordered w ↦ simp (← c.is_ordered.ensures, w.if-is_ordered.true, ← w.get16.ensures.0, ← w.value-is, c.if-get16-eq0.true, c.get16-then-get16-eq0.ensures.0)
  | else-is_ordered w ↦ true-false _ c.if-get16-eq0.true (w.value-is ∙ w.if-is_ordered.false)
]

pub returns-else-get16-eq0 : goal.returns-else-get16-eq0
unfolding plain_entry
returns-else-get16-eq0 c = elim c.if-is_ordered.branch [
  | then-is_ordered w ↦ simp (← c.is_ordered.ensures, w.if-is_ordered.true, ← w.get16.ensures.0, ← w.value-is, c.if-get16-eq0.false)
  | else-is_ordered w ↦ simp (← c.is_ordered.ensures, w.if-is_ordered.false, c.if-get16-eq0.false)
]
