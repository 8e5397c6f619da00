-- Name by name.
use mathlib.Core.Path.{◌∙◌}
use lib.ListN.{length-drop}
use Rattle.settings.specs.Reading.{parsed}
use Rattle.settings_values.proofs.Laws.{lent}
use native.Mathlib.Omega.{arith}
use Rattle.settings_values.proofs.parse_word.Goals as goal

pub returns-then-starts_with : goal.returns-then-starts_with
unfolding parsed
returns-then-starts_with c = c.parse_vertical.ensures ∙ rw (← c.starts_with.ensures.0, c.if-starts_with.true, lent c.args.s.now 9)

pub returns-then-starts_with-2 : goal.returns-then-starts_with-2
unfolding parsed
returns-then-starts_with-2 c = c.parse_line.ensures ∙ rw (← c.starts_with.ensures.0, c.if-starts_with.false, ← c.starts_with-2.ensures.0, c.if-starts_with-2.true, lent c.args.s.now 5)

pub returns-then-starts_with-3 : goal.returns-then-starts_with-3
unfolding parsed
returns-then-starts_with-3 c = c.parse_position.ensures ∙ rw (← c.starts_with.ensures.0, c.if-starts_with.false, ← c.starts_with-2.ensures.0, c.if-starts_with-2.false, ← c.starts_with-3.ensures.0, c.if-starts_with-3.true, lent c.args.s.now 9)

pub returns-then-starts_with-4 : goal.returns-then-starts_with-4
unfolding parsed
returns-then-starts_with-4 c = c.parse_size.ensures ∙ rw (← c.starts_with.ensures.0, c.if-starts_with.false, ← c.starts_with-2.ensures.0, c.if-starts_with-2.false, ← c.starts_with-3.ensures.0, c.if-starts_with-3.false, ← c.starts_with-4.ensures.0, c.if-starts_with-4.true, lent c.args.s.now 5)

pub returns-then-starts_with-5 : goal.returns-then-starts_with-5
unfolding parsed
returns-then-starts_with-5 c = c.parse_align.ensures ∙ rw (← c.starts_with.ensures.0, c.if-starts_with.false, ← c.starts_with-2.ensures.0, c.if-starts_with-2.false, ← c.starts_with-3.ensures.0, c.if-starts_with-3.false, ← c.starts_with-4.ensures.0, c.if-starts_with-4.false, ← c.starts_with-5.ensures.0, c.if-starts_with-5.true, lent c.args.s.now 6)

pub parse_region-requires : goal.parse_region-requires
parse_region-requires c = rw (lent c.args.s.now 7) (omega (arith, c.starts_with-6.ensures.1 c.if-starts_with-6.true, c.requires, length-drop 7 c.args.s.now))

pub returns-then-starts_with-6 : goal.returns-then-starts_with-6
unfolding parsed
returns-then-starts_with-6 c = c.parse_region.ensures ∙ rw (← c.starts_with.ensures.0, c.if-starts_with.false, ← c.starts_with-2.ensures.0, c.if-starts_with-2.false, ← c.starts_with-3.ensures.0, c.if-starts_with-3.false, ← c.starts_with-4.ensures.0, c.if-starts_with-4.false, ← c.starts_with-5.ensures.0, c.if-starts_with-5.false, ← c.starts_with-6.ensures.0, c.if-starts_with-6.true, lent c.args.s.now 7)

pub returns : goal.returns
unfolding parsed
returns c = rw (← c.starts_with.ensures.0, c.if-starts_with.false, ← c.starts_with-2.ensures.0, c.if-starts_with-2.false, ← c.starts_with-3.ensures.0, c.if-starts_with-3.false, ← c.starts_with-4.ensures.0, c.if-starts_with-4.false, ← c.starts_with-5.ensures.0, c.if-starts_with-5.false, ← c.starts_with-6.ensures.0, c.if-starts_with-6.false)
