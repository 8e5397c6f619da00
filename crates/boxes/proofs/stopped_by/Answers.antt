-- `boxes::stopped_by` meets its contract, case by case.
use Rattle.boxes.proofs.stopped_by.Goals as goal

pub returns-in-Refused : goal.returns-in-Refused
returns-in-Refused c = rw c.in-Refused.is
