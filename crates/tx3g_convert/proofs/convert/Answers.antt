-- The room first; nothing is written before it is known.
use Rattle.base.proofs.Results.{passed_on}
use mathlib.Core.Path.{refl, sym, ap, ◌∙◌}
use Rattle.tx3g_convert.specs.Converted.{NoRoom}
use Rattle.tx3g_convert.proofs.Rooms.{not_done, stays-refused, few-records, small-pool, room-enough, ready}
use Rattle.tx3g_convert.proofs.convert.Goals as goal

pub returns-in_err-room : goal.returns-in_err-room
returns-in_err-room c =
    let w = stays-refused _ _ _ _ _ _ _ (sym c.in_err-room.was ∙ c.measure.ensures) (not_done _ _ refl) in
    rw (passed_on _ _ c.from_residual.ensures) (w.0, w.1 _ _, w.1 _ _)

pub returns-then-records-room : goal.returns-then-records-room
returns-then-records-room c = (ap NoRoom c.fault_at.ensures ∙ few-records _ _ _ _ _ _ _ _ _ _ _ (sym c.in_ok-room.was ∙ c.measure.ensures) c.if-records-room.true, refl, refl)

pub returns-then-pool-room : goal.returns-then-pool-room
returns-then-pool-room c = (ap NoRoom c.fault_at-then-pool-room.ensures ∙ small-pool _ _ _ _ _ _ _ _ _ _ _ (sym c.in_ok-room.was ∙ c.measure.ensures) c.if-records-room.false c.if-pool-room.true, refl, refl)

pub write_cues-requires : goal.write_cues-requires
write_cues-requires c = (ready _ _ _ _ _ _ _ _ _ _ _ (sym c.in_ok-room.was ∙ c.measure.ensures) c.if-records-room.false c.if-pool-room.false, c.measure.auto.buf)

pub returns : goal.returns
returns c = (room-enough _ _ _ _ _ _ _ _ _ _ _ (sym c.in_ok-room.was ∙ c.measure.ensures) c.if-records-room.false c.if-pool-room.false, c.write_cues.ensures.0, c.write_cues.ensures.1)
