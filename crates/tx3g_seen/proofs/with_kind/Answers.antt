-- `tx3g_seen::with_kind` meets its contract.
use Rattle.boxes.specs.Boxes.{among}
use Rattle.tx3g_seen.proofs.with_kind.Goals as goal

pub returns : goal.returns
unfolding among
returns c = λ before m. record {
  of_styles = rw (← m.of_styles) c.mark.ensures;
  of_colour = rw (← m.of_colour) c.mark-2.ensures;
  of_karaoke = rw (← m.of_karaoke) c.mark-3.ensures;
  of_delay = rw (← m.of_delay) c.mark-4.ensures;
  of_box = rw (← m.of_box) c.mark-5.ensures;
  of_wrap = rw (← m.of_wrap) c.mark-6.ensures;
}
