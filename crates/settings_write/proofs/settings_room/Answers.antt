-- `settings_write::settings_room` meets its contract: the two cases of what was prepared.
use mathlib.Core.Path.{◌≡◌, ap, ◌∙◌}
use Rattle.base.proofs.Results.{passed_on}
use Rattle.std.proofs.Common.{Err}
use Rattle.settings_write.proofs.Laws.{room-unfit, room-done}
use Rattle.settings_write.proofs.settings_room.Goals as goal

pub returns-in_err-size : goal.returns-in_err-size
returns-in_err-size c =
    let h = rw c.in_err-size.ensures.ok_part at c.in_err-size.ensures.value in
    let e : c.in_err-size.field-0.0 ≡ c.fault_at.result = cc in
    passed_on _ _ c.from_residual.ensures ∙ ap Err (e ∙ c.fault_at.ensures) ∙ room-unfit _ _ (rw c.in_err-size.ensures.ok_part at c.prepare.ensures)

pub returns : goal.returns
returns c = let p = rw c.in_ok-size.ensures.ok_part at c.prepare.ensures in room-done _ _ _ p.0 p.3
