-- All bytes are digits, and the number is within its limit.
use mathlib.Core.Path.{sym}
use lib.IntN.{pos}
use mir.Syntax.{w16}
use mir.Facts.{to_z_pos}
use Rattle.settings_values.proofs.Laws.{too_large, number_is}
use native.Mathlib.Omega.{arith}
use Rattle.settings_values.proofs.end_number.Goals as goal

pub returns-then-d-gt32767 : goal.returns-then-d-gt32767
returns-then-d-gt32767 c = sym (too_large _ _ _ c.requires.0 c.requires.1 32767 (omega arith) pos c.if-d-gt32767.true)

pub returns : goal.returns
returns c = rw (to_z_pos w16 {n = c.args.d.number} (omega (arith, c.if-d-gt32767.false))) (sym (number_is _ _ _ c.requires.0 c.requires.1 32767 (omega arith) pos c.requires.2 c.requires.3 c.if-d-gt32767.false))
