use Rattle.conform.proofs.match_record.Goals as goal

pub returns-in-Out : goal.returns-in-Out
returns-in-Out c = λ f. rw (← c.stand_of.ensures _, c.in-Out.is)

pub returns-in-Whole : goal.returns-in-Whole
returns-in-Whole c = λ f. rw (← c.stand_of.ensures _, c.in-Whole.is) (c.take_cue.ensures f)

pub returns-in-Partly : goal.returns-in-Partly
returns-in-Partly c = λ f. rw (← c.stand_of.ensures _, c.in-Partly.is)
