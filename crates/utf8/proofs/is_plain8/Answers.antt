use mathlib.Core.Path.{sym, ◌∙◌}
use Rattle.utf8.specs.Machine.{plain}
use Rattle.utf8.proofs.Machine.{unmarked-plain, plain-rest}
use Rattle.utf8.proofs.is_plain8.Goals as goal
use Rattle.utf8.proofs.is_plain8.Goals.{in-Any, in_default}

pub returns-then-is_unmarked8 : goal.returns-then-is_unmarked8
returns-then-is_unmarked8 c = c.if-is_unmarked8.true ∙ unmarked-plain _ _ _ _ (sym c.is_unmarked8.ensures ∙ c.if-is_unmarked8.true)

pub returns-then-matches : goal.returns-then-matches
unfolding plain
returns-then-matches c = elim c.match-matches.branch [ in-Any w ↦ rw w.in-Any.is c.is_ascii8.ensures | in_default w ↦ cc ]

pub returns-else-matches : goal.returns-else-matches
returns-else-matches c =
    elim c.match-matches.branch [
      | in-Any w ↦ cc
      | in_default w ↦ w.matches-is ∙ sym c.if-is_unmarked8.false ∙ c.is_unmarked8.ensures ∙ plain-rest _ w.in_default.not-Any _ _ _
    ]
