-- Numbers that stand for nothing, or the answer of the settings.
use mathlib.Core.Path.{◌∙◌}
use Rattle.settings_write.specs.Writing.{settings_written}
use Rattle.settings_flat.specs.Flat.{given_room, given_written}
use Rattle.settings_flat.proofs.write_given.Goals as goal

pub returns-then-not-is_known : goal.returns-then-not-is_known
unfolding given_room given_written
returns-then-not-is_known c = (rw (c.fault_at.ensures, ← c.is_known.ensures, c.if-not-is_known.true), rw (← c.is_known.ensures, c.if-not-is_known.true))

pub returns : goal.returns
unfolding given_room given_written settings_written
returns c = let k = c.if-not-is_known.false in (c.write_settings.ensures.0 ∙ rw (← c.is_known.ensures, k, c.settings_of.ensures), c.write_settings.ensures.1 ∙ rw (← c.is_known.ensures, k, c.settings_of.ensures))
