use native.Mathlib.Omega.{arith}
use Rattle.boxes.specs.Boxes.{part}
use Rattle.tx3g_sample.proofs.Laws.{read-good, text-fine}
use Rattle.tx3g_payload_write.proofs.Texts.{text-walked, text-within}
use Rattle.tx3g_payload_write.proofs.Walks.{walk-starts}
use Rattle.tx3g_payload_write.proofs.Onward.{sets-out, walks, kept, goes_on, too_long, comes_home}
use Rattle.tx3g_payload_write.proofs.put_stretches.Goals as goal

pub find_text-t-requires : goal.find_text-t-requires
find_text-t-requires c = text-fine _ (read-good _ _ _ c.requires.0).text

pub find_styles-styles-requires : goal.find_styles-styles-requires
find_styles-styles-requires c = c.requires.0

pub overflow_cast-left : goal.overflow_cast-left
overflow_cast-left c = omega (arith, c.struct_known-1.given.0)

pub loop-k-init : goal.loop-k-init
unfolding part
loop-k-init c = let r = read-good _ _ _ c.requires.0 in sets-out _ _ _ _ _ _ _ _ (text-walked _ _ _ (λ j. (c.type_inv.s j).fits) r.text r.count c.find_text-t.ensures) (walk-starts _ _ c.find_styles-styles.ensures)

pub next_stretch-r-requires : goal.next_stretch-r-requires
next_stretch-r-requires c = (c.requires.0, c.loop-k-test.true, walks _ _ _ _ _ _ _ _ _ _ _ c.loop-k.invariant c.loop-k-test.true)

pub slice_bounds-put_stretch-count : goal.slice_bounds-put_stretch-count
slice_bounds-put_stretch-count c = (text-within c.args.s.now _ (text-fine _ (read-good _ _ _ c.requires.0).text) c.find_text-t.ensures).0

pub slice_bounds-put_stretch-start : goal.slice_bounds-put_stretch-start
slice_bounds-put_stretch-start c = let w = text-within c.args.s.now _ (text-fine _ (read-good _ _ _ c.requires.0).text) c.find_text-t.ensures in omega (arith, w.0)

pub slice_bounds-put_stretch-end : goal.slice_bounds-put_stretch-end
slice_bounds-put_stretch-end c = let w = text-within c.args.s.now _ (text-fine _ (read-good _ _ _ c.requires.0).text) c.find_text-t.ensures in omega (arith, w.1)

pub overflow_sub-r : goal.overflow_sub-r
overflow_sub-r c = omega (arith, c.next_stretch-r.ensures.goes)

pub put_stretch-made-requires : goal.put_stretch-made-requires
put_stretch-made-requires c =
    let g = c.loop-k.invariant in
    let w = c.next_stretch-r.ensures in
    (g.here, g.spells, omega (arith, w.ends, w.goes, g.many), g.fits, kept _ _ _ _ _ _ c.requires.1 _ _ _ _ _ g)

pub shape_of-out-then-made-gt4095 : goal.shape_of-out-then-made-gt4095
shape_of-out-then-made-gt4095 c = (too_long _ _ _ _ _ _ c.requires.1 _ _ _ _ _ _ c.loop-k.invariant _ c.next_stretch-r.ensures _ c.put_stretch-made.ensures c.if-made-gt4095.true).kept

pub returns-then-made-gt4095 : goal.returns-then-made-gt4095
returns-then-made-gt4095 c = too_long _ _ _ _ _ _ c.requires.1 _ _ _ _ _ _ c.loop-k.invariant _ c.next_stretch-r.ensures _ c.put_stretch-made.ensures c.if-made-gt4095.true

pub loop-k-smaller : goal.loop-k-smaller
loop-k-smaller c = let w = c.next_stretch-r.ensures in omega (arith, w.goes, w.ends)

pub loop-k-preserved : goal.loop-k-preserved
loop-k-preserved c = goes_on _ _ _ _ _ _ c.requires.1 _ _ _ _ _ _ c.loop-k.invariant _ c.next_stretch-r.ensures _ c.put_stretch-made.ensures (omega arith)

pub shape_of-out : goal.shape_of-out
shape_of-out c = (comes_home _ _ _ _ _ _ _ _ _ _ _ c.requires.1 c.loop-k.invariant (omega arith)).kept

pub returns : goal.returns
returns c = comes_home _ _ _ _ _ _ _ _ _ _ _ c.requires.1 c.loop-k.invariant (omega arith)
