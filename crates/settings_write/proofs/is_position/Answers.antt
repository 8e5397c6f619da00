-- `settings_write::is_position` meets its contract, case by case.
use Rattle.settings_write.proofs.is_position.Goals as goal

pub returns-in-Percent : goal.returns-in-Percent
returns-in-Percent c = rw c.in-Percent.is
