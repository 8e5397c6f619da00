-- The room first; nothing is written before it is known.
use mathlib.Core.Path.{refl, sym, ap, ◌∙◌}
use Rattle.base.proofs.Results.{passed_on}
use native.Mathlib.Omega.{arith}
use Rattle.vtt_write.specs.FileWritten.{FileWritten, NoRoom}
use Rattle.vtt_write.specs.Writing.{file_bytes, after}
use Rattle.vtt_write.proofs.Answers.{room_says, none_lent, enough-lent, stays-refused}
use Rattle.vtt_write.proofs.write.Goals as goal

pub returns-in_err-n : goal.returns-in_err-n
returns-in_err-n c =
    let a = c.args in
    let w = stays-refused _ _ _ _ _ (sym c.in_err-n.was ∙ c.write_room.ensures) in
    let e = passed_on _ _ c.from_residual.ensures in
    record {
      value = e ∙ w.0;
      out_after = w.1 _ _ ∙ ap (λ (x : FileWritten). after x (file_bytes a.configuration.now a.records.now a.pool.now) a.out.now) (sym e);
    }

pub returns-then-out-n : goal.returns-then-out-n
returns-then-out-n c = record { value = ap NoRoom c.fault_at.ensures ∙ none_lent _ _ _ _ _ (sym c.write_room.ensures ∙ c.in_ok-n.was) (omega arith); out_after = refl }

pub put_file-requires : goal.put_file-requires
put_file-requires c = let w = room_says _ _ _ _ (sym c.write_room.ensures ∙ c.in_ok-n.was) in (w.0, omega (arith, w.1))

pub returns : goal.returns
returns c = record { value = enough-lent _ _ _ _ _ (sym c.write_room.ensures ∙ c.in_ok-n.was) (omega arith); out_after = c.put_file.ensures }
