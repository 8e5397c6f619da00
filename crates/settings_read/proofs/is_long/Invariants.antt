-- If x is 0, the run goes on for k bytes.
use Prim.Native.Nat.{◌+◌, ◌-◌, ◌≤◌}
use mathlib.Core.Path.{◌≡◌}
use Rattle.vtt_timing.specs.Read.{in_run}
use Rattle.settings_read.specs.Terms.{runs_to}
use Rattle.settings_read.proofs.is_long.Given as goal

abbrev pub invariant-loop-k : goal.invariant-loop-k
invariant-loop-k l = (l.k ≤ 64) × (l.x ≡ 0 → runs_to (in_run l.run) l.s (l.at + l.k) ≡ runs_to (in_run l.run) l.s l.at)

abbrev pub decreases-loop-k : goal.decreases-loop-k
decreases-loop-k l = 64 - l.k
