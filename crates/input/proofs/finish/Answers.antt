-- `input::finish` meets its contract.
use Rattle.input.proofs.Laws.{not-whole}
use Rattle.input.proofs.finish.Goals as goal

pub returns-in_default : goal.returns-in_default
returns-in_default c = not-whole c.args.state c.in_default.not-Whole

pub returns : goal.returns
returns c = rw c.in-Whole.is
