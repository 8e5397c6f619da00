-- `input::take_byte` meets its contract.
use Rattle.input.proofs.take_byte.Goals as goal

pub returns-in-Start : goal.returns-in-Start
returns-in-Start c = rw c.in-Start.is c.begin_scale.ensures

pub returns-in-Scale : goal.returns-in-Scale
returns-in-Scale c = rw c.in-Scale.is c.go_on_scale.ensures

pub returns-in-Space : goal.returns-in-Space
returns-in-Space c = rw c.in-Space.is c.begin_time.ensures

pub returns-in-Time : goal.returns-in-Time
returns-in-Time c = rw c.in-Time.is c.go_on_time.ensures
