-- The invariant: so many characters are passed, and the others are to come.
use Prim.Native.Nat.{◌-◌}
use Rattle.tx3g_tidy.proofs.Places.{Passing}
use Rattle.tx3g_tidy.proofs.pass_characters.Given as goal

abbrev pub invariant-loop-passed : goal.invariant-loop-passed
invariant-loop-passed l = Passing l.text l.from l.count l.at (l.count - l._passed)
