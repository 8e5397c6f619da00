use Rattle.base.proofs.Results.{passed_on}
use mathlib.Core.List.{List}
use mathlib.Core.Path.{refl, sym, ap, ◌∙◌}
use native.Mathlib.Omega.{arith}
use borrow.Author.Tests.{lt-ltb, le-ltb}
use Rattle.base.specs.Over.{over}
use Rattle.unpack.specs.Unpacked.{Refused}
use Rattle.unpack.specs.Unpacking.{roomed}
use Rattle.unpack.proofs.Laws.{ready-measurable, room-refused, room-fine, records-whole, pool-whole}
use Rattle.unpack.proofs.write_list.Goals as goal

pub measure_rows-requires : goal.measure_rows-requires
measure_rows-requires c = ready-measurable _ _ _ _ _ c.requires

pub returns-in_err-room : goal.returns-in_err-room
returns-in_err-room c = let e = passed_on _ _ c.from_residual.ensures in let w = room-refused _ _ _ _ _ (e ∙ sym c.in_err-room.was ∙ c.measure_rows.ensures) e in (w.0, w.1 _ _, w.1 _ _)

pub returns-then-records-room : goal.returns-then-records-room
returns-then-records-room c = let e = sym c.measure_rows.ensures ∙ c.in_ok-room.was in
    (ap Refused c.fault_at.ensures ∙ sym (ap (roomed _ _) e ∙ rw (lt-ltb _ _ c.if-records-room.true)), refl, refl)

pub returns-then-pool-room : goal.returns-then-pool-room
returns-then-pool-room c = let e = sym c.measure_rows.ensures ∙ c.in_ok-room.was in
    (ap Refused c.fault_at-then-pool-room.ensures ∙ sym (ap (roomed _ _) e ∙ rw (le-ltb _ _ c.if-records-room.false, lt-ltb _ _ c.if-pool-room.true)), refl, refl)

pub put_rows-requires : goal.put_rows-requires
put_rows-requires c = let p = c.requires in
    let w = room-fine _ _ _ _ _ _ _ _ c.measure_rows.ensures c.in_ok-room.was in
    (p.scaled, p.most, p.rows, p.ready, w.0.in-time, omega (arith, w.1, c.if-records-room.false), omega (arith, w.2, c.if-pool-room.false))

pub returns : goal.returns
returns c = let a = c.args in
    let e = sym c.measure_rows.ensures ∙ c.in_ok-room.was in (
      sym (ap (roomed _ _) e ∙ rw (le-ltb _ _ c.if-records-room.false, le-ltb _ _ c.if-pool-room.false)),
      c.put_rows.ensures.0 ∙ ap (λ (x : List _). over x a.records.now) (records-whole a.samples.now a.tab.now a.n a.scale),
      c.put_rows.ensures.1 ∙ ap (λ (x : List _). over x a.pool.now) (pool-whole a.samples.now a.tab.now a.n),
    )
