use Rattle.cuts.specs.Window.{Started}
use Rattle.cuts.proofs.pass_started.Given as goal

abbrev pub invariant-loop-i : goal.invariant-loop-i
invariant-loop-i l = Started l.scale l.records l.i l.b
