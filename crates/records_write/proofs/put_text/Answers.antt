-- `records_write::put_text` meets its contract: the text is copied whole.
use mathlib.Core.Path.{refl, ap, ◌∙◌}
use Rattle.base.specs.Over.{wrote}
use Rattle.records_write.proofs.Laws.{whole}
use Rattle.records_write.proofs.put_text.Goals as goal

pub returns : goal.returns
returns c = (refl, c.copy_run.ensures ∙ ap (wrote _ _) (whole _))
