-- The invariant: k places are read, and bring `time`, with each least time that can still be reached.
use Rattle.profile_times.proofs.Clock.{Reached}
use Rattle.profile_times.proofs.time_at.Given as goal

abbrev pub invariant-loop-k : goal.invariant-loop-k
invariant-loop-k l = Reached l.s l.at l.k l.time
