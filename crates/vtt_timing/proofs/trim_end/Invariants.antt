-- The edges at the end are left one by one.
use Rattle.vtt_timing.proofs.Laws.{Trimming}
use Rattle.vtt_timing.proofs.trim_end.Given as goal

abbrev pub invariant-loop-to : goal.invariant-loop-to
invariant-loop-to l = Trimming l.s l.from l.to
