-- `settings_write::is_region` meets its contract: no name, or one whose bytes may stand in a name, and which is a text.
use mathlib.Core.Path.{sym, ◌∙◌}
use lib.ListN.{length}
use borrow.Author.Tests.{eqb-true}
use Rattle.settings.specs.Form.{region_allowed}
use Rattle.settings_write.proofs.Laws.{nameless, judged-name}
use Rattle.settings_write.proofs.is_region.Goals as goal

pub returns-then-is_empty : goal.returns-then-is_empty
returns-then-is_empty c = c.if-is_empty.true ∙ nameless c.args.name.now (eqb-true (length c.args.name.now) 0 (sym c.is_empty.ensures ∙ c.if-is_empty.true))

pub returns-then-is_name : goal.returns-then-is_name
unfolding region_allowed
returns-then-is_name c = rw (sym c.is_name.ensures ∙ c.if-is_name.true) (c.is_ok.ensures.value ∙ judged-name _ _ c.judge_identifier.ensures)

pub returns-else-is_name : goal.returns-else-is_name
unfolding region_allowed
returns-else-is_name c = rw (sym c.is_name.ensures ∙ c.if-is_name.false) c.if-is_name.false
