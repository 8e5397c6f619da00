use Rattle.conform.specs.Window.{Ended}
use Rattle.conform.proofs.skip_ended.Given as goal

abbrev pub invariant-loop-i : goal.invariant-loop-i
invariant-loop-i l = Ended l.scale l.records l.i l.b
