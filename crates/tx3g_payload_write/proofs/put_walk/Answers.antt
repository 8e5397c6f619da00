use native.Mathlib.Omega.{arith}
use Rattle.tx3g_payload_write.proofs.Tags.{one-stands, going_on, turned, stopped, ended, still}
use Rattle.tx3g_payload_write.proofs.put_walk.Goals as goal

pub loop-w-init : goal.loop-w-init
loop-w-init c = let p = c.requires in going_on _ _ _ _ _ p.0 p.1 p.2 p.3 p.4

pub shape_of-out-then-w-gt4095 : goal.shape_of-out-then-w-gt4095
shape_of-out-then-w-gt4095 c = still _ _ _ _ _ c.requires.5 _ _ c.loop-w.invariant

pub returns-then-w-gt4095 : goal.returns-then-w-gt4095
returns-then-w-gt4095 c = stopped _ _ _ _ _ c.requires.5 _ _ c.loop-w.invariant c.if-w-gt4095.true

pub put_some-w-requires : goal.put_some-w-requires
put_some-w-requires c =
    let g = c.loop-w.invariant in
    let h = c.loop-w-test.true in
    let k = still _ _ _ _ _ c.requires.5 _ _ g in
    (one-stands c.args.utf16 c.args.text.now _ _ h g.many, h, g.spelled, omega (arith, c.if-w-gt4095.false), omega (arith, k, c.requires.5))

pub loop-w-smaller : goal.loop-w-smaller
loop-w-smaller c = let t = c.put_some-w.ensures in omega (arith, t.left_is, t.some)

pub loop-w-preserved : goal.loop-w-preserved
loop-w-preserved c = turned _ _ _ _ _ c.requires.5 _ _ _ _ c.loop-w.invariant (omega (arith, c.if-w-gt4095.false)) c.put_some-w.ensures

pub put_end-end-requires : goal.put_end-end-requires
put_end-end-requires c = let g = c.loop-w.invariant in let k = still _ _ _ _ _ c.requires.5 _ _ g in omega (arith, k, c.requires.5, g.most)

pub shape_of-out : goal.shape_of-out
shape_of-out c = (ended _ _ _ _ _ c.requires.5 _ _ _ _ c.loop-w.invariant (omega arith) c.put_end-end.ensures).kept

pub returns : goal.returns
returns c = ended _ _ _ _ _ c.requires.5 _ _ _ _ c.loop-w.invariant (omega arith) c.put_end-end.ensures
