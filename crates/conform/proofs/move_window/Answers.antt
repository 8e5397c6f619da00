use Rattle.conform.proofs.Laws.{started-by}
use Rattle.conform.proofs.move_window.Goals as goal

pub skip_ended-first-requires : goal.skip_ended-first-requires
skip_ended-first-requires c = (c.requires.1.first_most, c.requires.1.ended)

pub pass_started-last-requires : goal.pass_started-last-requires
pass_started-last-requires c = (c.requires.1.last_most, started-by _ _ _ _ _ c.requires.0 c.requires.1.started, c.requires.2)

pub returns : goal.returns
returns c = record { first_most = c.skip_ended-first.ensures.0; last_most = c.pass_started-last.ensures.0; ended = c.skip_ended-first.ensures.1; started = c.pass_started-last.ensures.1; later = c.pass_started-last.ensures.2 }
