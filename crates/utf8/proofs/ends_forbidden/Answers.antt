use Rattle.utf8.specs.Strings.{starts_with_any}
use Rattle.utf8.specs.Forbidden.{forbidden}
use Rattle.utf8.specs.Machine.{ends_forbidden}
use Rattle.utf8.proofs.ends_forbidden.Goals as goal

pub returns-in-Any : goal.returns-in-Any
unfolding forbidden ends_forbidden starts_with_any
returns-in-Any c = rw c.in-Any.is

pub returns-in-Line : goal.returns-in-Line
unfolding forbidden
returns-in-Line c = rw c.in-Line.is c.ends_in_line.ensures

pub returns-in-Payload : goal.returns-in-Payload
unfolding forbidden
returns-in-Payload c = rw c.in-Payload.is c.ends_in_payload.ensures
