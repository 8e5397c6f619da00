use Rattle.base.proofs.Results.{passed_on}
use mathlib.Core.Path.{◌∙◌, ap, sym, refl}
use native.Mathlib.Omega.{arith}
use borrow.Author.Tests.{lt-ltb, le-ltb}
use Rattle.table.proofs.Laws.{laid-iff}
use Rattle.table_lasting.specs.Dropped.{Refused}
use Rattle.table_lasting.specs.Dropping.{judge_drop}
use Rattle.table_lasting.proofs.Answers.{room-refused, room-told, room-means}
use Rattle.table_lasting.proofs.drop_zero_durations.Goals as goal

pub returns-in_err-room : goal.returns-in_err-room
returns-in_err-room c = let e = passed_on _ _ c.from_residual.ensures in
    let w = room-refused _ _ _ _ _ _ (e ∙ sym c.in_err-room.was ∙ c.drop_zero_durations_room.ensures) e in record { value = w.0; rows_after = w.1 _ _; content_after = w.1 _ _ }

pub returns-then-rows-room : goal.returns-then-rows-room
returns-then-rows-room c = let e = room-told _ _ _ _ _ _ _ _ c.drop_zero_durations_room.ensures c.in_ok-room.was in
    record { value = ap Refused c.fault_at.ensures ∙ sym (e ∙ rw (lt-ltb _ _ c.if-rows-room.true)); rows_after = refl; content_after = refl }

pub returns-then-content-room : goal.returns-then-content-room
returns-then-content-room c = let e = room-told _ _ _ _ _ _ _ _ c.drop_zero_durations_room.ensures c.in_ok-room.was in
    record { value = ap Refused c.fault_at-then-content-room.ensures ∙ sym (e ∙ rw (le-ltb _ _ c.if-rows-room.false, lt-ltb _ _ c.if-content-room.true)); rows_after = refl; content_after = refl }

pub copy_rows-requires : goal.copy_rows-requires
unfolding judge_drop
copy_rows-requires c = let w = room-means _ _ _ _ _ (sym c.drop_zero_durations_room.ensures ∙ c.in_ok-room.was) in
    record { laid = (laid-iff _ _).0 w.fine; for_table = omega (arith, w.table_is, c.if-rows-room.false); for_content = omega (arith, w.bytes_are, c.if-content-room.false) }

pub returns : goal.returns
returns c = let e = room-told _ _ _ _ _ _ _ _ c.drop_zero_durations_room.ensures c.in_ok-room.was in
    record { value = sym (e ∙ rw (le-ltb _ _ c.if-rows-room.false, le-ltb _ _ c.if-content-room.false)); rows_after = c.copy_rows.ensures.rows_after; content_after = c.copy_rows.ensures.content_after }
