use mathlib.Core.Path.{sym, ap, ◌∙◌}
use mathlib.Core.Bool.{not}
use borrow.Author.Tests.{le-ltb}
use lib.ListN.{length, drop_of_length-le}
use lib.Seq.{drop-cons}
use Rattle.vtt_lines.specs.Cursor.{begins_filled}
use Rattle.vtt_lines.proofs.is_filled.Goals as goal

pub returns-else-at-s : goal.returns-else-at-s
unfolding begins_filled
returns-else-at-s c = le-ltb c.args.at (length c.args.s.now) c.if-at-s.false ∙ sym (ap begins_filled (drop_of_length-le c.args.s.now c.if-at-s.false))

pub returns-then-at-s : goal.returns-then-at-s
unfolding begins_filled
returns-then-at-s c = let a = c.args in ap not c.is_line_end.ensures ∙ sym (ap begins_filled (drop-cons a.s.now a.at 0 c.if-at-s.true))
