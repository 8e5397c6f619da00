use Prim.Native.Nat.{◌<◌}
use native.Mathlib.Omega.{arith}
use Rattle.conform.proofs.Laws.{stands-out, stands-late, stands-short, stands-whole}
use Rattle.conform.proofs.stand_of.Goals.{then-x-start_tick, else-x-start_tick}
use Rattle.conform.proofs.stand_of.Goals as goal

pub returns-then-end-x : goal.returns-then-end-x
returns-then-end-x c = λ pool. stands-out _ _ pool _ _ _ (rw (← c.end_tick-end.ensures) c.if-end-x.true)

pub returns-then-end-x-2 : goal.returns-then-end-x-2
returns-then-end-x-2 c = elim c.if-x-start_tick.branch [
  | then-x-start_tick w ↦ λ pool. stands-late _ _ pool _ _ _ c.requires.1 (rw (← c.end_tick-end.ensures) c.if-end-x.false) (rw (← c.start_tick.ensures) w.if-x-start_tick.true)
  | else-x-start_tick w ↦ let h : c.end_tick-end.result < c.args.x.end = omega (arith, c.if-end-x-2.either, w.if-x-start_tick.false) in
      λ pool. stands-short _ _ pool _ _ _ c.requires.1 (rw (← c.end_tick-end.ensures) c.if-end-x.false) (rw (← c.start_tick.ensures) w.if-x-start_tick.false) (rw (← c.end_tick-end.ensures) h)
]

pub returns-else-end-x-2 : goal.returns-else-end-x-2
returns-else-end-x-2 c = let h = c.if-end-x-2.false in
    λ pool. stands-whole _ _ pool _ _ _ c.requires.1 (rw (← c.end_tick-end.ensures) c.if-end-x.false) (rw (← c.start_tick.ensures) h.0) (rw (← c.end_tick-end.ensures) h.1)
