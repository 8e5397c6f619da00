-- `cues::judge_ids` meets its contract. The invariants: no ID of a record before i stood earlier, the slots of these IDs are taken, and no record before j has the ID of record i.
use mathlib.Core.Path.{◌≡◌}
use Rattle.cues.proofs.Laws.{Fresh, Apart, Slots}
use Rattle.cues.proofs.judge_ids.Given as goal

abbrev pub invariant-loop-j : goal.invariant-loop-j
invariant-loop-j l = (l.place ≡ l.n) × Fresh l.records l.i l.j

abbrev pub invariant-search : goal.invariant-search
invariant-search l = (l.place ≡ l.n) × Apart l.records l.i × Slots l.records l.taken l.i
