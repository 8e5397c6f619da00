-- `wvtt_entry_write::write_entry` meets its contract: it writes only where the room's answer fits what is lent.
use Rattle.wvtt_entry_write.proofs.Answers.{room-done, written-refused, written-short, written-done, after-refused}
use Rattle.base.proofs.Results.{passed_on}
use native.Mathlib.Omega.{arith}
use mathlib.Core.Path.{refl, sym, ◌∙◌}
use Rattle.wvtt_entry_write.proofs.write_entry.Goals as goal

pub returns-in_err-n : goal.returns-in_err-n
returns-in_err-n c = let e = passed_on _ _ c.from_residual.ensures in
    record { value = written-refused _ _ _ _ _ (e ∙ sym c.in_err-n.was ∙ c.entry_room.ensures) e; out_after = after-refused _ _ _ _ e }

pub returns-then-out-n : goal.returns-then-out-n
returns-then-out-n c = record { value = rw c.fault_at.ensures (sym (written-short _ _ _ _ (sym c.entry_room.ensures ∙ c.in_ok-n.was) (omega arith))); out_after = refl }

pub overflow_cast-n : goal.overflow_cast-n
overflow_cast-n c = let w = room-done _ _ _ (sym c.entry_room.ensures ∙ c.in_ok-n.was) in omega arith

pub put_entry-requires : goal.put_entry-requires
put_entry-requires c = let w = room-done _ _ _ (sym c.entry_room.ensures ∙ c.in_ok-n.was) in (w.0, omega arith)

pub returns : goal.returns
returns c = record { value = sym (written-done _ _ _ _ (sym c.entry_room.ensures ∙ c.in_ok-n.was) (omega arith)); out_after = rw c.from.ensures at c.put_entry.ensures }
