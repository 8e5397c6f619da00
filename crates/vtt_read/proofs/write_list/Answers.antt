-- The room first; nothing is written before it is known.
use mathlib.Core.Path.{refl, sym, ap, ◌∙◌, subst}
use native.Mathlib.Omega.{arith}
use borrow.Author.Tests.{lt-ltb, le-ltb}
use Rattle.base.proofs.Results.{passed_on}
use Rattle.vtt_read.specs.FileRead.{Refused}
use Rattle.vtt_read.specs.Reading.{roomed, read_of, file_records, file_pool}
use Rattle.vtt_read.specs.Steps.{RowsOf}
use Rattle.vtt_read.proofs.Ends.{stays-refused, done-ready}
use Rattle.vtt_read.proofs.write_list.Goals as goal

pub returns-in_err-list : goal.returns-in_err-list
returns-in_err-list c =
    let e = passed_on _ _ c.from_residual.ensures in
    let w = stays-refused _ _ _ (e ∙ sym c.in_err-list.was ∙ c.measure.ensures.0) e in (w.0 _ _, w.1 _ _, w.1 _ _)

pub returns-then-records-list : goal.returns-then-records-list
unfolding read_of
returns-then-records-list c = let e = sym c.measure.ensures.0 ∙ c.in_ok-list.was in (ap Refused c.fault_at.ensures ∙ sym (ap (roomed _ _) e ∙ rw (lt-ltb _ _ c.if-records-list.true)), refl, refl)

pub returns-then-pool-list : goal.returns-then-pool-list
unfolding read_of
returns-then-pool-list c =
    let e = sym c.measure.ensures.0 ∙ c.in_ok-list.was in
    (ap Refused c.fault_at-then-pool-list.ensures ∙ sym (ap (roomed _ _) e ∙ rw (le-ltb _ _ c.if-records-list.false, lt-ltb _ _ c.if-pool-list.true)), refl, refl)

pub write_rows-requires : goal.write_rows-requires
unfolding file_records file_pool
write_rows-requires c =
    let w = done-ready _ _ _ _ (sym c.measure.ensures.0 ∙ c.in_ok-list.was) in
    (subst (RowsOf c.args.s.now c.measure.new.tab) c.in_ok-list.was c.measure.ensures.1, sym w.1, c.measure.auto.buf, record { fine = w.0; records_fit = omega (arith, w.2, c.if-records-list.false); pool_fits = omega (arith, w.3, c.if-pool-list.false) })

pub returns : goal.returns
unfolding read_of
returns c =
    let e = sym c.measure.ensures.0 ∙ c.in_ok-list.was in
    (sym (ap (roomed _ _) e ∙ rw (le-ltb _ _ c.if-records-list.false, le-ltb _ _ c.if-pool-list.false)), c.write_rows.ensures.0, c.write_rows.ensures.1)
