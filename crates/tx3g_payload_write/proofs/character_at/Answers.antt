-- By the encoding.
use Rattle.tx3g_payload_write.proofs.Characters.{spelled_by, character-by}
use Rattle.tx3g_payload_write.proofs.character_at.Goals as goal

pub utf16_at-requires : goal.utf16_at-requires
utf16_at-requires c = (c.requires.0, spelled_by _ _ _ c.if-utf16.true c.requires.1)

pub returns-then-utf16 : goal.returns-then-utf16
returns-then-utf16 c = character-by _ _ _ _ _ _ c.if-utf16.true c.utf16_at.ensures

pub utf8_at-requires : goal.utf8_at-requires
utf8_at-requires c = (c.requires.0, spelled_by _ _ _ c.if-utf16.false c.requires.1)

pub returns-else-utf16 : goal.returns-else-utf16
returns-else-utf16 c = character-by _ _ _ _ _ _ c.if-utf16.false c.utf8_at.ensures
