-- Numbers that stand for nothing, or the answer of the settings.
use mathlib.Core.Path.{◌∙◌}
use Rattle.settings_flat.specs.Flat.{given_room}
use Rattle.settings_flat.proofs.given_room.Goals as goal

pub returns-then-not-is_known : goal.returns-then-not-is_known
unfolding given_room
returns-then-not-is_known c = rw (c.fault_at.ensures, ← c.is_known.ensures, c.if-not-is_known.true)

pub returns : goal.returns
unfolding given_room
returns c = c.settings_room.ensures ∙ rw (← c.is_known.ensures, c.if-not-is_known.false, c.settings_of.ensures)
