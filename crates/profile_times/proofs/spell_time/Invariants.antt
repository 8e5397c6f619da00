-- The invariant: k places are read, and bring `time`.
use Rattle.profile_times.proofs.Clock.{Begun}
use Rattle.profile_times.proofs.spell_time.Given as goal

abbrev pub invariant-loop-k : goal.invariant-loop-k
invariant-loop-k l = Begun l.s l.at l.low l.k l.time
