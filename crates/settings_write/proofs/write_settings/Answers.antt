-- `settings_write::write_settings` meets its contract: it writes only where the form fits what is lent.
use mathlib.Core.Path.{◌≡◌, refl, ap, ◌∙◌}
use native.Mathlib.Omega.{arith}
use Rattle.base.proofs.Results.{passed_on}
use Rattle.std.proofs.Common.{Err}
use Rattle.settings_write.proofs.Laws.{front-size, written-unfit, written-short, written-done, form-over}
use Rattle.settings_write.proofs.write_settings.Goals as goal

pub returns-in_err-n : goal.returns-in_err-n
returns-in_err-n c =
    let h = rw c.in_err-n.ensures.ok_part at c.in_err-n.ensures.value in
    let e : c.in_err-n.field-0.0 ≡ c.fault_at.result = cc in
    rw (passed_on _ _ c.from_residual.ensures ∙ ap Err (e ∙ c.fault_at.ensures), written-unfit _ _ _ (rw c.in_err-n.ensures.ok_part at c.prepare.ensures)) (refl, refl)

pub returns-then-out-size : goal.returns-then-out-size
returns-then-out-size c = let p = rw c.in_ok-n.ensures.ok_part at c.prepare.ensures in rw (c.fault_at-then-out-size.ensures, written-short _ _ _ p.0 p.3 _ c.if-out-size.true) (refl, refl)

pub put_form-requires : goal.put_form-requires
put_form-requires c = let a = c.args in let p = rw c.in_ok-n.ensures.ok_part at c.prepare.ensures in
    (p.2, omega (arith, p.3, c.if-out-size.false, front-size a.x a.region.now _ _ p.1 p.2))

pub returns : goal.returns
returns c = let p = rw c.in_ok-n.ensures.ok_part at c.prepare.ensures in rw (written-done _ _ _ p.0 p.3 _ c.if-out-size.false) (refl, form-over _ _ _ _ _ p.1 c.put_form.ensures)
