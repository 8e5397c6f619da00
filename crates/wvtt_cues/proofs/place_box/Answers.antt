-- `wvtt_cues::place_box` meets its contract: each part is placed by itself.
use Rattle.wvtt_cues.specs.Terms.{places_of}
use Rattle.wvtt_cues.proofs.place_box.Goals as goal

pub returns : goal.returns
unfolding places_of
returns c = rw (c.place_part.ensures, c.place_part-2.ensures, c.place_part-3.ensures, c.place_part-4.ensures)
