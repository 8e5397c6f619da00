-- `-->` at 13 is one.
use mathlib.Core.Path.{sym, ◌∙◌}
use lib.Dec.{leb}
use lib.ListN.{length}
use borrow.Author.Tests.{lt-leb}
use native.Mathlib.Omega.{arith}
use Rattle.base.proofs.Choice.{true-false}
use Rattle.vtt_lines.proofs.Arrows.{arrow-found, arrow-below}
use Rattle.vtt_lines.proofs.is_usual.Goals as goal

pub returns-else-line-ge16 : goal.returns-else-line-ge16
returns-else-line-ge16 c = λ e. true-false (leb 16 (length c.args.line.now)) e (lt-leb 16 (length c.args.line.now) c.if-line-ge16.false)

pub returns-then-line-ge16 : goal.returns-then-line-ge16
returns-then-line-ge16 c = λ e. arrow-below c.args.line.now 13 (arrow-found c.args.line.now 13 (omega (arith, c.if-line-ge16.true)) (sym c.is_arrow.ensures ∙ e))
