-- `wvtt::with_kind` meets its contract: each mark gains the kind at hand.
use Rattle.boxes.specs.Boxes.{among}
use Rattle.wvtt.proofs.with_kind.Goals as goal

pub returns : goal.returns
unfolding among
returns c = λ before m. record {
  of_id = rw (← m.of_id) c.mark_kind.ensures;
  of_identifier = rw (← m.of_identifier) c.mark_kind-2.ensures;
  of_time = rw (← m.of_time) c.mark_kind-3.ensures;
  of_settings = rw (← m.of_settings) c.mark_kind-4.ensures;
  of_payload = rw (← m.of_payload) c.mark_kind-5.ensures;
}
