-- The invariant: the judgement of the rest, moved by what stands before it, is that of the whole; what is counted and what is left to count make the whole.
use Prim.Native.Nat.{◌+◌, ◌-◌, ◌≤◌}
use mathlib.Core.Path.{◌≡◌}
use lib.ListN.{length, drop}
use Rattle.viable.specs.FirstBad.{judged_by}
use Rattle.characters.specs.Characters.{first_units, tx3g_text, tx3g_begun}
use Rattle.characters.proofs.Units.{later, units}
use Rattle.characters.proofs.count_utf16.Given as goal

abbrev pub invariant-loop-i : goal.invariant-loop-i
invariant-loop-i l = (l.i ≤ length l.s) × (l.n ≤ l.i) × (later l.i (units l.due (drop l.i l.s)) ≡ judged_by tx3g_text tx3g_begun l.s) × (l.n + first_units (drop l.i l.s) ≡ first_units (drop 2 l.s))

abbrev pub decreases-loop-i : goal.decreases-loop-i
decreases-loop-i l = length l.s - l.i
