-- The invariant: n is the count before i, and i is a whole number of strides.
use Prim.Native.Nat.{ℕ, ◌*◌, ◌-◌, ◌≤◌}
use mathlib.Core.Path.{◌≡◌}
use Rattle.characters.specs.Counting.{firsts_in}
use Rattle.characters.proofs.count_firsts.Given as goal

abbrev pub invariant-loop-i : goal.invariant-loop-i
invariant-loop-i l = record {
  strides : (q : ℕ) × (l.i ≡ q * 8);
  whole : l.i ≤ l.whole;
  fits : l.n ≤ l.i;
  counted : l.n ≡ firsts_in l.s 0 l.i;
}

abbrev pub decreases-loop-i : goal.decreases-loop-i
decreases-loop-i l = l.whole - l.i
