-- `tx3g_style::holds_character` meets its contract.
use Rattle.tx3g_style.specs.Style.{holds_at}
use Rattle.std.proofs.lemmas.Bool.Decides.{nat_tests}
use native.Mathlib.Omega.{arith}
use Rattle.tx3g_style.proofs.holds_character.Goals as goal

pub returns : goal.returns
unfolding holds_at
returns c = rw (← c.get16.ensures.0, ← c.get16-2.ensures.0) (grind (arith, nat_tests, c.contains.ensures.value))
