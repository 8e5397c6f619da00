-- The invariant: up to i the text goes on, and no plain byte stands at i.
use Prim.Native.Nat.{◌-◌}
use lib.ListN.{length}
use mathlib.Core.List.{List}
use Rattle.profile.specs.Readings.{Reads}
use Rattle.profile.specs.declared.Tag.{Tag}
use Rattle.profile.specs.Spot.{Past}
use Rattle.profile_judge.specs.Terms.{Marked, in_text}
use Rattle.profile_judge.proofs.read_text.Given as goal

abbrev pub invariant-loop-i : goal.invariant-loop-i
invariant-loop-i l = Reads (List Tag) l.s l.at (Past l.i) (in_text l.low) (in_text l.least) × Marked l.s l.i

abbrev pub decreases-loop-i : goal.decreases-loop-i
decreases-loop-i l = length l.s - l.i
