use Prim.Native.Nat.{◌<◌}
use native.Mathlib.Omega.{arith}
use Rattle.tx3g_tidy.proofs.Escapes.{shows, shown-kept, shown-all, run_room, shown-run, shown-byte}
use Rattle.tx3g_tidy.proofs.put_shown.Goals as goal

pub loop-i-init : goal.loop-i-init
loop-i-init c = shows _ _ _ _ _ c.requires.0

pub plain_end-next-requires : goal.plain_end-next-requires
plain_end-next-requires c = (c.loop-i.invariant.here, c.requires.1)

pub overflow_sub-next : goal.overflow_sub-next
overflow_sub-next c = c.plain_end-next.ensures.goes

pub put_run-requires : goal.put_run-requires
put_run-requires c =
    let p = c.requires in
    let g = c.loop-i.invariant in
    let w = c.plain_end-next.ensures in
    (omega (arith, shown-kept _ _ _ _ _ p.1 p.2 _ _ _ g, run_room _ _ _ _ _ p.1 p.2 _ _ _ g _ w), omega (arith, p.1, w.goes, w.ends))

pub overflow_sub-to : goal.overflow_sub-to
overflow_sub-to c = c.plain_end-next.ensures.goes

pub overflow_add-to : goal.overflow_add-to
overflow_add-to c = let p = c.requires in omega (arith, run_room _ _ _ _ _ p.1 p.2 _ _ _ c.loop-i.invariant _ c.plain_end-next.ensures)

pub shape_of-out-then-next-end : goal.shape_of-out-then-next-end
shape_of-out-then-next-end c =
    let p = c.requires in
    shown-kept _ _ _ _ _ p.1 p.2 _ _ _ (shown-run _ _ _ _ _ p.1 p.2 _ _ _ c.loop-i.invariant _ c.plain_end-next.ensures _ c.put_run.ensures)

pub returns-then-next-end : goal.returns-then-next-end
returns-then-next-end c =
    let p = c.requires in
    shown-all _ _ _ _ _ p.1 p.2 _ _ _ (shown-run _ _ _ _ _ p.1 p.2 _ _ _ c.loop-i.invariant _ c.plain_end-next.ensures _ c.put_run.ensures) (omega arith)

pub bounds-text-next : goal.bounds-text-next
bounds-text-next c = omega (arith, c.requires.1, c.plain_end-next.ensures.ends, c.if-next-end.false)

pub overflow_cast-text : goal.overflow_cast-text
overflow_cast-text c = omega (arith, c.type_inv.text c.plain_end-next.result)

pub put_escaped-to-requires : goal.put_escaped-to-requires
put_escaped-to-requires c =
    let p = c.requires in
    let g = c.loop-i.invariant in
    let w = c.plain_end-next.ensures in
    let k = shown-kept _ _ _ _ _ p.1 p.2 _ _ _ (shown-run _ _ _ _ _ p.1 p.2 _ _ _ g _ w _ c.put_run.ensures) in
    (omega (arith, k, run_room _ _ _ _ _ p.1 p.2 _ _ _ g _ w), omega (arith, c.type_inv.text c.plain_end-next.result))

pub overflow_add-i : goal.overflow_add-i
overflow_add-i c = omega (arith, c.plain_end-next.ensures.ends, c.if-next-end.false)

pub loop-i-smaller : goal.loop-i-smaller
loop-i-smaller c = let w = c.plain_end-next.ensures in omega (arith, w.goes, w.ends, c.if-next-end.false)

pub loop-i-preserved : goal.loop-i-preserved
loop-i-preserved c =
    let p = c.requires in
    let w = c.plain_end-next.ensures in
    let h = c.put_escaped-to.ensures in
    let l : c.plain_end-next.result < c.args.end = omega (arith, w.ends, c.if-next-end.false) in
    shown-byte _ _ _ _ _ p.1 p.2 _ _ _ (shown-run _ _ _ _ _ p.1 p.2 _ _ _ c.loop-i.invariant _ w _ c.put_run.ensures) l (w.stops l) _ _ h.0 h.2

pub shape_of-out : goal.shape_of-out
shape_of-out c = let p = c.requires in shown-kept _ _ _ _ _ p.1 p.2 _ _ _ c.loop-i.invariant

pub returns : goal.returns
returns c = let p = c.requires in shown-all _ _ _ _ _ p.1 p.2 _ _ _ c.loop-i.invariant (omega arith)
