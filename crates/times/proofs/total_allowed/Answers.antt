-- A time above the largest is refused before it is made 4 bytes long.
use mathlib.Core.Path.{sym, ◌∙◌}
use borrow.Author.Tests.{lt-leb}
use Rattle.times.proofs.Laws.{ms-above}
use Rattle.times.proofs.total_allowed.Goals as goal

pub returns-else-m-le359999999 : goal.returns-else-m-le359999999
returns-else-m-le359999999 c = lt-leb _ _ c.if-m-le359999999.false ∙ rw (← c.ms_of-m.ensures.0) (sym (ms-above _ _ c.if-m-le359999999.false))
