-- `settings_write::is_line` meets its contract, case by case. A line's number is in its range by its type.
use Rattle.settings_write.proofs.Laws.{number-allowed}
use Rattle.settings_write.proofs.is_line.Goals as goal

pub returns-in-Number : goal.returns-in-Number
returns-in-Number c = rw c.in-Number.is (number-allowed c.in-Number._n c.in-Number.known_told-1-own.given.0.1)

pub returns-in-Percent : goal.returns-in-Percent
returns-in-Percent c = rw c.in-Percent.is
