-- `.d%`, byte by byte.
use mathlib.Core.Path.{sym, ◌∙◌}
use borrow.Author.Tests.{eq-eqb, ne_eqb}
use Rattle.timestamps.specs.Timestamps.{digit}
use Rattle.settings_values.proofs.Laws.{three-is}
use Rattle.settings_values.proofs.read_tenths.Goals as goal

pub returns-then-s-ne46 : goal.returns-then-s-ne46
returns-then-s-ne46 c = rw (three-is c.args.s.now c.requires, ne_eqb _ _ c.if-s-ne46.true)

pub returns-then-not-is_within : goal.returns-then-not-is_within
unfolding digit
returns-then-not-is_within c = rw (three-is c.args.s.now c.requires, eq-eqb _ _ c.if-s-ne46.false, ← c.is_within.ensures, c.if-not-is_within.true)

pub returns-then-s-ne37 : goal.returns-then-s-ne37
unfolding digit
returns-then-s-ne37 c = rw (three-is c.args.s.now c.requires, eq-eqb _ _ c.if-s-ne46.false, ← c.is_within.ensures, c.if-not-is_within.false, ne_eqb _ _ c.if-s-ne37.true)

pub number_of-requires : goal.number_of-requires
unfolding digit
number_of-requires c = sym c.is_within.ensures ∙ c.if-not-is_within.false

pub returns : goal.returns
unfolding digit
returns c = rw (three-is c.args.s.now c.requires, eq-eqb _ _ c.if-s-ne46.false, ← c.is_within.ensures, c.if-not-is_within.false, eq-eqb _ _ c.if-s-ne37.false, c.number_of.ensures.0)
