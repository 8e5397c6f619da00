-- `tx3g_runs::next_run` meets its contract. The invariant: what is left gives the same run.
use mathlib.Core.Path.{◌≡◌}
use Prim.Native.Nat.{◌-◌}
use Rattle.tx3g_runs.specs.Runs.{run_among}
use Rattle.tx3g_runs.proofs.next_run.Given as goal

abbrev pub invariant-loop-passed : goal.invariant-loop-passed
invariant-loop-passed l = run_among l.s (l.count - l.passed) l.at l.k l.characters ≡ run_among l.s l.count l.from l.k l.characters
