-- The run up to a comma ends where it ended from the bytes before.
use Prim.Native.Nat.{◌≤◌}
use mathlib.Core.Path.{◌≡◌}
use lib.ListN.{length}
use Rattle.settings.specs.Reading.{not_comma}
use Rattle.vtt_timing.proofs.Laws.{run_end}
use Rattle.settings_values.proofs.find_comma.Given as goal

abbrev pub invariant-loop-i : goal.invariant-loop-i
invariant-loop-i l = (l.i ≤ length l.s) × (run_end not_comma l.s l.i ≡ run_end not_comma l.s 0)
