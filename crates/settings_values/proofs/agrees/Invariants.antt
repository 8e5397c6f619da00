-- x is 0 exactly if the first i bytes agree.
use Prim.Native.Nat.{◌≤◌}
use mathlib.Core.Path.{◌≡◌}
use lib.Dec.{eqb}
use lib.ListN.{length, take}
use Rattle.utf8.specs.Strings.{starts_with}
use Rattle.settings_values.proofs.agrees.Given as goal

abbrev pub invariant-loop-i : goal.invariant-loop-i
invariant-loop-i l = (l.i ≤ length l.p) × (eqb l.x 0 ≡ starts_with (take l.i l.p) l.s)
