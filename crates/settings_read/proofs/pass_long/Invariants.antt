-- The run from i on ends where the run from `at` does.
use Prim.Native.Nat.{◌-◌, ◌≤◌}
use mathlib.Core.Path.{◌≡◌}
use lib.ListN.{length}
use Rattle.vtt_timing.specs.Read.{in_run}
use Rattle.settings_read.specs.Terms.{runs_to}
use Rattle.settings_read.proofs.pass_long.Given as goal

abbrev pub invariant-loop-i : goal.invariant-loop-i
invariant-loop-i l = (l.i ≤ length l.s) × (runs_to (in_run l.run) l.s l.i ≡ runs_to (in_run l.run) l.s l.at)

abbrev pub decreases-loop-i : goal.decreases-loop-i
decreases-loop-i l = length l.s - l.i
