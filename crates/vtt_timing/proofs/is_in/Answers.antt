-- Each run by its test.
use mathlib.Core.Path.{ap}
use mathlib.Core.Bool.{not}
use Rattle.vtt_timing.specs.Timing.{unblank}
use Rattle.vtt_timing.proofs.is_in.Goals as goal

pub returns-in-Blanks : goal.returns-in-Blanks
returns-in-Blanks c = rw c.in-Blanks.is c.is_blank.ensures

pub returns-in-Word : goal.returns-in-Word
unfolding unblank
returns-in-Word c = rw c.in-Word.is (ap not c.is_blank-in-Word.ensures)

pub returns-in-Edges : goal.returns-in-Edges
returns-in-Edges c = rw c.in-Edges.is c.is_edge.ensures
