-- x is 0 exactly if the run of such bytes reaches i.
use Prim.Native.Nat.{◌≤◌}
use mathlib.Core.Path.{◌≡◌}
use lib.Dec.{eqb, leb}
use lib.ListN.{length}
use Rattle.settings.specs.Grammar.{named}
use Rattle.timestamps.specs.Timestamps.{front}
use Rattle.settings_values.proofs.is_name.Given as goal

abbrev pub invariant-loop-b : goal.invariant-loop-b
invariant-loop-b l = (l.b-index ≤ length l.s) × (eqb l.x 0 ≡ leb l.b-index (length (front named l.s)))
