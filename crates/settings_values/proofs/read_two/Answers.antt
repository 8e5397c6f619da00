-- `.dd%`, byte by byte.
use mathlib.Core.Path.{sym, ◌∙◌}
use borrow.Author.Tests.{eq-eqb, ne_eqb}
use Rattle.timestamps.specs.Timestamps.{digit}
use Rattle.settings_values.proofs.Laws.{four_is}
use Rattle.settings_values.proofs.read_two.Goals as goal

pub returns-then-s-ne46 : goal.returns-then-s-ne46
returns-then-s-ne46 c = rw (four_is c.args.s.now c.requires, ne_eqb _ _ c.if-s-ne46.true)

pub returns-then-not-is_within : goal.returns-then-not-is_within
unfolding digit
returns-then-not-is_within c = rw (four_is c.args.s.now c.requires, eq-eqb _ _ c.if-s-ne46.false, ← c.is_within.ensures, c.if-not-is_within.true)

pub returns-then-not-is_within-2 : goal.returns-then-not-is_within-2
unfolding digit
returns-then-not-is_within-2 c = rw (four_is c.args.s.now c.requires, eq-eqb _ _ c.if-s-ne46.false, ← c.is_within.ensures, c.if-not-is_within.false, ← c.is_within-2.ensures, c.if-not-is_within-2.true)

pub returns-then-s-ne37 : goal.returns-then-s-ne37
unfolding digit
returns-then-s-ne37 c = rw (four_is c.args.s.now c.requires, eq-eqb _ _ c.if-s-ne46.false, ← c.is_within.ensures, c.if-not-is_within.false, ← c.is_within-2.ensures, c.if-not-is_within-2.false, ne_eqb _ _ c.if-s-ne37.true)

pub number_of-requires : goal.number_of-requires
unfolding digit
number_of-requires c = sym c.is_within.ensures ∙ c.if-not-is_within.false

pub number_of-requires-2 : goal.number_of-requires-2
unfolding digit
number_of-requires-2 c = sym c.is_within-2.ensures ∙ c.if-not-is_within-2.false

pub returns : goal.returns
unfolding digit
returns c = rw (four_is c.args.s.now c.requires, eq-eqb _ _ c.if-s-ne46.false, ← c.is_within.ensures, c.if-not-is_within.false, ← c.is_within-2.ensures, c.if-not-is_within-2.false, eq-eqb _ _ c.if-s-ne37.false, c.number_of.ensures.0, c.number_of-2.ensures.0)
