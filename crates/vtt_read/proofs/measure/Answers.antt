-- The state at the end has the numbers and the rows.
use mathlib.Core.Path.{◌≡◌, subst, subst⁻¹}
use native.Mathlib.Omega.{arith}
use Rattle.base.proofs.Results.{passed_on}
use Rattle.vtt_read.specs.FileRead.{FileRead}
use Rattle.vtt_read.specs.Reading.{read_room}
use Rattle.vtt_read.specs.Steps.{EndIs, RowsOf}
use Rattle.vtt_read.proofs.Ends.{room-done, room-refused}
use Rattle.vtt_read.proofs.measure.Goals as goal

pub overflow_mul-result : goal.overflow_mul-result
overflow_mul-result c = record { fits = omega (arith, (subst (EndIs c.args.s.now c.judge_rest.new.tab) c.in_ok-last.was c.judge_rest.ensures).0.few) }

pub returns-in_err-last : goal.returns-in_err-last
returns-in_err-last c =
    subst⁻¹ (λ (x : FileRead). (x ≡ read_room c.args.s.now) × RowsOf c.args.s.now c.judge_rest.new.tab x) (passed_on _ _ c.from_residual.ensures)
    (room-refused _ _ (subst (EndIs c.args.s.now c.judge_rest.new.tab) c.in_err-last.was c.judge_rest.ensures), tt)

pub returns : goal.returns
returns c = let e = subst (EndIs c.args.s.now c.judge_rest.new.tab) c.in_ok-last.was c.judge_rest.ensures in (room-done _ _ e.0 e.1, e.2)
