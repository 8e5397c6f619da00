-- The byte there, if there is one.
use mathlib.Core.Path.{sym, ap, ◌∙◌}
use borrow.Author.Tests.{le-ltb}
use lib.ListN.{length, drop_of_length-le}
use lib.Seq.{drop-cons}
use Rattle.vtt_lines.specs.Cursor.{begins_empty}
use Rattle.vtt_lines.proofs.is_empty.Goals as goal

pub returns-else-at-s : goal.returns-else-at-s
unfolding begins_empty
returns-else-at-s c = rw (le-ltb c.args.at (length c.args.s.now) c.if-at-s.false, drop_of_length-le c.args.s.now c.if-at-s.false)

pub returns-then-at-s : goal.returns-then-at-s
unfolding begins_empty
returns-then-at-s c = c.is_line_end.ensures ∙ sym (ap begins_empty (drop-cons _ _ 0 c.if-at-s.true))
