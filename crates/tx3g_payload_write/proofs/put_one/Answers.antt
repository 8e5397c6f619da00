-- The character, what is left of it, and its tags.
use Rattle.tx3g_payload_write.proofs.Plain.{stepped-one}
use Rattle.tx3g_payload_write.proofs.put_one.Goals as goal

pub returns : goal.returns
returns c = stepped-one _ _ _ _ _ _ _ _ c.left_of-l.result _ _ _ c.requires.1 c.character_at-c.ensures c.left_of-l.ensures.0 c.is_break.ensures c.put_next-p.ensures
