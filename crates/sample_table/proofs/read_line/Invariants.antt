-- `sample_table::read_line` meets its contract. The invariant: some reads have led to the state.
use Rattle.sample_table.proofs.Laws.{Led}
use Rattle.sample_table.proofs.read_line.Given as goal

abbrev pub invariant-loop : goal.invariant-loop
invariant-loop g l = Led l.fn.state l.reached
