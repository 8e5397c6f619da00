-- The invariant: the state is the machine's after the bytes from `from` to i; p and q are the two bytes before i.
use Prim.Native.Nat.{◌-◌, ◌<◌}
use mathlib.Core.Path.{◌≡◌}
use Rattle.utf8.specs.Machine.{before, run}
use Rattle.utf8.proofs.ByteTables.pass_bytes.Given as goal

abbrev pub invariant-loop-i : goal.invariant-loop-i
invariant-loop-i l = (l.state < 8) × (l.state ≡ run l.rule l.s l.start l.from (l.i - l.from)) × (l.p ≡ before 2 l.s l.i) × (l.q ≡ before 1 l.s l.i)
