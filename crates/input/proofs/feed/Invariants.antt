-- `input::feed` meets its contract. The invariant: the bytes that are left make of the state what all bytes make of the first.
use lib.ListN.{drop}
use mathlib.Core.Path.{◌≡◌}
use Rattle.input.specs.Reading.{fed}
use Rattle.input.proofs.feed.Given as goal

abbrev pub invariant-loop-b : goal.invariant-loop-b
invariant-loop-b l = fed l.reached (drop l.b-index l.bytes) ≡ fed l.initial.reached l.bytes
