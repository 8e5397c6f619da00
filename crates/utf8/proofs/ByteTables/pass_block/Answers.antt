use Prim.Native.Nat.{◌-◌}
use mathlib.Core.Path.{◌≡◌, sym, ◌∙◌}
use native.Mathlib.Omega.{arith}
use Rattle.utf8.specs.Machine.{PassedIs}
use Rattle.utf8.proofs.Machine.{plain_run}
use Rattle.utf8.proofs.ByteTables.pass_block.Goals as goal

pub returns-then-is_plain8 : goal.returns-then-is_plain8
unfolding PassedIs
returns-then-is_plain8 c =
    let z : c.args.start ≡ 0 = omega arith in
    let e : c.args.end - c.args.from ≡ 8 = omega arith in
    (omega arith, rw (z, e) (sym (plain_run _ _ _ 8 (sym c.is_plain8.ensures ∙ c.if-is_plain8.true))))
