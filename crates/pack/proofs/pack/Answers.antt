use Rattle.base.proofs.Results.{passed_on}
use Rattle.pack.proofs.Laws.{room-refused, room-told, room-means}
use Rattle.pack.specs.Packed.{Refused}
use Rattle.cues.proofs.Sound.{fine-sound}
use borrow.Author.Tests.{lt-ltb, le-ltb}
use mathlib.Core.Path.{◌∙◌, ap, sym, refl}
use native.Mathlib.Omega.{arith}
use Rattle.pack.proofs.pack.Goals as goal

pub returns-in_err-room : goal.returns-in_err-room
returns-in_err-room c = let e = passed_on _ _ c.from_residual.ensures in
    let w = room-refused _ _ _ _ _ _ _ _ (e ∙ sym c.in_err-room.was ∙ c.pack_room.ensures) e in record { value = w.0; table_after = w.1 _ _; samples_after = w.1 _ _ }

pub returns-then-table-room : goal.returns-then-table-room
returns-then-table-room c = let e = room-told _ _ _ _ _ _ _ _ _ _ c.pack_room.ensures c.in_ok-room.was in
    record { value = ap Refused c.fault_at.ensures ∙ sym (e ∙ rw (lt-ltb _ _ c.if-table-room.true)); table_after = refl; samples_after = refl }

pub returns-then-samples-room : goal.returns-then-samples-room
returns-then-samples-room c = let e = room-told _ _ _ _ _ _ _ _ _ _ c.pack_room.ensures c.in_ok-room.was in
    record { value = ap Refused c.fault_at-then-samples-room.ensures ∙ sym (e ∙ rw (le-ltb _ _ c.if-table-room.false, lt-ltb _ _ c.if-samples-room.true)); table_after = refl; samples_after = refl }

pub write_track-requires : goal.write_track-requires
write_track-requires c = let w = room-means _ _ _ _ _ _ _ _ c.pack_room.ensures c.in_ok-room.was in
    record { sound = fine-sound _ _ _ _ w.0; room = (omega (arith, w.1, c.if-table-room.false), omega (arith, w.2, c.if-samples-room.false)) }

pub returns : goal.returns
returns c = let e = room-told _ _ _ _ _ _ _ _ _ _ c.pack_room.ensures c.in_ok-room.was in
    record { value = sym (e ∙ rw (le-ltb _ _ c.if-table-room.false, le-ltb _ _ c.if-samples-room.false)); table_after = c.write_track.ensures.table_after; samples_after = c.write_track.ensures.samples_after }
