-- `wvtt_cues::read_parts` meets its contract. The invariant: what is left, with the places so far, gives the whole of the places (`Kept`).
use Rattle.wvtt_cues.proofs.Laws.{Kept}
use Prim.Native.Nat.{◌-◌}
use Rattle.wvtt_cues.proofs.read_parts.Given as goal

abbrev pub invariant-loop-kind : goal.invariant-loop-kind
invariant-loop-kind l = Kept l.s l.from l.end l.at l.places

abbrev pub decreases-loop-kind : goal.decreases-loop-kind
decreases-loop-kind l = l.end - l.at
