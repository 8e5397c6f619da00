-- `wvtt::end_cue` meets its contract: a refused header comes before 4.
use Rattle.wvtt.proofs.end_cue.Goals as goal

pub returns-else-payload : goal.returns-else-payload
returns-else-payload c = simp (← c.stopped_by.ensures, c.in_ok-stopped_by.was, c.if-payload.false, c.refused.ensures)
