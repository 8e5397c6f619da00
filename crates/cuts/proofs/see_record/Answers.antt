use Rattle.cuts.specs.Cuts.{end_tick}
use borrow.Author.Tests.{lt-ltb, le-ltb}
use mathlib.Core.Path.{refl}
use Prim.Native.Nat.{◌≤◌, ◌<◌}
use native.Mathlib.Omega.{arith}
use Rattle.cuts.proofs.see_record.Goals as goal

pub returns-then-end-b : goal.returns-then-end-b
returns-then-end-b c = let h : end_tick c.args.scale c.args.records.now c.args.k ≤ c.args.b = omega (arith, c.end_tick-end.ensures) in
    rw (le-ltb _ _ h) record { next_value = refl; cues_value = (omega arith, omega arith) }

pub returns : goal.returns
returns c = let h : c.args.b < end_tick c.args.scale c.args.records.now c.args.k = omega (arith, c.end_tick-end.ensures, c.if-end-b.false) in
    rw (lt-ltb _ _ h) record { next_value = omega (arith, c.end_tick-end.ensures, c.min.ensures); cues_value = (omega (arith, c.record_size.ensures), omega (arith, c.record_size.ensures)) }
