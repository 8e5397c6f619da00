-- The invariant: n is the count from `from` to i.
use Prim.Native.Nat.{◌-◌, ◌≤◌}
use mathlib.Core.Path.{◌≡◌}
use Rattle.characters.specs.Counting.{firsts_in}
use Rattle.characters.proofs.count_from.Given as goal

abbrev pub invariant-loop-i : goal.invariant-loop-i
invariant-loop-i l = (l.n ≤ l.i) × (l.n ≡ firsts_in l.s l.from (l.i - l.from))
