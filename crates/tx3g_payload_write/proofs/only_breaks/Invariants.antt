-- The invariant: from here on as from the start.
use Prim.Native.Nat.{◌-◌, ◌≤◌}
use mathlib.Core.Path.{◌≡◌}
use lib.ListN.{length, drop}
use Rattle.tx3g_payload.specs.Left.{only_breaks}
use Rattle.tx3g_payload_write.specs.Terms.{points_by, Spelled}
use Rattle.tx3g_payload_write.proofs.only_breaks.Given as goal

abbrev pub invariant-loop-at : goal.invariant-loop-at
invariant-loop-at l = (l.at ≤ length l.text) × Spelled l.utf16 (drop l.at l.text) × (only_breaks (points_by l.utf16 (drop l.at l.text)) ≡ only_breaks (points_by l.utf16 (drop l.from l.text)))

abbrev pub decreases-loop-at : goal.decreases-loop-at
decreases-loop-at l = length l.text - l.at
