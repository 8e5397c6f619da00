-- The run ends where it ended from the bytes before.
use Prim.Native.Nat.{◌≤◌}
use mathlib.Core.Path.{◌≡◌}
use lib.ListN.{length}
use Rattle.vtt_timing.specs.Read.{in_run}
use Rattle.vtt_timing.proofs.Laws.{run_end}
use Rattle.vtt_timing.proofs.pass_run.Given as goal

abbrev pub invariant-loop-i : goal.invariant-loop-i
invariant-loop-i l = (l.i ≤ length l.s) × (run_end (in_run l.run) l.s l.i ≡ run_end (in_run l.run) l.s l.at)
