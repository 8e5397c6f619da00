-- `settings_write::prepare` meets its contract: a sound record whose form is at most 255 bytes long can be written.
use native.Mathlib.Omega.{arith}
use Rattle.settings_write.proofs.Laws.{sound-short, not_sound, oversize, prepared}
use Rattle.settings_write.proofs.prepare.Goals as goal

pub returns-then-not-is_sound : goal.returns-then-not-is_sound
returns-then-not-is_sound c = not_sound _ _ _ c.is_sound.ensures c.if-not-is_sound.true

pub form_size-size-requires : goal.form_size-size-requires
form_size-size-requires c = (c.put_values-n.ensures.1, sound-short _ _ _ c.is_sound.ensures c.if-not-is_sound.false)

pub returns-then-size-gt255 : goal.returns-then-size-gt255
returns-then-size-gt255 c = oversize _ _ _ _ _ _ c.is_sound.ensures c.if-not-is_sound.false c.put_values-n.ensures.0 (omega (arith, c.put_values-n.ensures.1, c.put_values-n.auto.out)) c.form_size-size.ensures c.if-size-gt255.true

pub returns : goal.returns
returns c = prepared _ _ _ _ _ _ c.is_sound.ensures c.if-not-is_sound.false c.put_values-n.ensures.0 (omega (arith, c.put_values-n.ensures.1, c.put_values-n.auto.out)) c.form_size-size.ensures c.if-size-gt255.false
