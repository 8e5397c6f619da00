-- With each call the depth that is left falls, with each turn of the loop the bytes that are left. The invariant: up to i content is read, and `least` is the least time.
use Prim.Native.Nat.{◌-◌, ◌+◌, ◌*◌}
use lib.ListN.{length}
use Rattle.profile.specs.Readings.{Reads}
use Rattle.profile.specs.Spot.{Past}
use Rattle.profile_judge.specs.Terms.{Room, texts}
use Rattle.profile_judge.proofs.+read_content_read_span.Given as goal

abbrev pub decreases-read_content : goal.decreases-read_content
decreases-read_content l = l.left * 2 + 1

abbrev pub decreases-read_span : goal.decreases-read_span
decreases-read_span l = l.left * 2

abbrev pub invariant-read_content-loop-next : goal.invariant-read_content-loop-next
invariant-read_content-loop-next l = Reads (Room l.left l.ruby) l.s l.at (Past l.i) (texts l.left l.ruby l.low) (texts l.left l.ruby l.least)

abbrev pub decreases-read_content-loop-next : goal.decreases-read_content-loop-next
decreases-read_content-loop-next l = length l.s - l.i
