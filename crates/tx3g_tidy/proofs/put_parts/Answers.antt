use mathlib.Core.Path.{sym, ◌∙◌}
use native.Mathlib.Omega.{arith}
use Rattle.tx3g_payload_write.proofs.Walks.{walk-starts}
use Rattle.tx3g_tidy.proofs.Samples.{good-lies, good-text, good-single, good-stays}
use Rattle.tx3g_tidy.proofs.Reaching.{walks}
use Rattle.tx3g_tidy.proofs.Parts.{lays, laid_kept, laid-all, to-come, has_room, lays-on}
use Rattle.tx3g_tidy.proofs.put_parts.Goals as goal

pub text_end-end-requires : goal.text_end-end-requires
text_end-end-requires c = let w = good-lies _ _ _ c.requires.0 (λ j. (c.type_inv.s j).fits) c.requires.1 in omega (arith, w)

pub find_styles-styles-requires : goal.find_styles-styles-requires
find_styles-styles-requires c = c.requires.0

pub overflow_sub-single : goal.overflow_sub-single
overflow_sub-single c = c.text_end-end.ensures.1

pub overflow_cast-left : goal.overflow_cast-left
overflow_cast-left c = omega (arith, c.struct_known-1.given.0)

pub loop-k-init : goal.loop-k-init
loop-k-init c =
    let p = c.requires in
    lays _ _ _ _ _ _ _
    (good-text _ _ _ p.0 (λ j. (c.type_inv.s j).fits) p.1 _ c.text_end-end.ensures.0)
    (good-stays _ _ _ p.0 (λ j. (c.type_inv.s j).fits) p.1)
    (walk-starts _ _ c.find_styles-styles.ensures)

pub next_stretch-r-requires : goal.next_stretch-r-requires
next_stretch-r-requires c = (c.requires.0, c.loop-k-test.true, walks _ _ _ _ _ _ c.loop-k.invariant.on c.loop-k-test.true)

pub slice_bounds-end_of-count : goal.slice_bounds-end_of-count
slice_bounds-end_of-count c = c.text_end-end.ensures.1

pub slice_bounds-end_of-start : goal.slice_bounds-end_of-start
slice_bounds-end_of-start c = omega (arith, c.text_end-end.ensures.1)

pub slice_bounds-end_of-end : goal.slice_bounds-end_of-end
slice_bounds-end_of-end c = let w = good-lies _ _ _ c.requires.0 (λ j. (c.type_inv.s j).fits) c.requires.1 in omega (arith, w, c.text_end-end.ensures.0)

pub overflow_sub-r : goal.overflow_sub-r
overflow_sub-r c = omega (arith, c.next_stretch-r.ensures.goes)

pub end_of-next-requires : goal.end_of-next-requires
end_of-next-requires c =
    let p = c.requires in (
      to-come _ _ _ _ _ p.3 p.2 _ _ _ _ _ _ c.loop-k.invariant _ c.next_stretch-r.ensures,
      good-single _ _ _ p.0 (λ j. (c.type_inv.s j).fits) p.1 _ c.text_end-end.ensures.0,
    )

pub slice_bounds-put_part-count : goal.slice_bounds-put_part-count
slice_bounds-put_part-count c = c.text_end-end.ensures.1

pub slice_bounds-put_part-start : goal.slice_bounds-put_part-start
slice_bounds-put_part-start c = omega (arith, c.text_end-end.ensures.1)

pub slice_bounds-put_part-end : goal.slice_bounds-put_part-end
slice_bounds-put_part-end c = let w = good-lies _ _ _ c.requires.0 (λ j. (c.type_inv.s j).fits) c.requires.1 in omega (arith, w, c.text_end-end.ensures.0)

pub put_part-bytes-requires : goal.put_part-bytes-requires
put_part-bytes-requires c =
    let p = c.requires in
    let g = c.loop-k.invariant in
    let b = c.end_of-next.ensures in
    let k = laid_kept _ _ _ _ _ p.3 p.2 _ _ _ _ _ _ g in
    let r = has_room _ _ _ _ _ p.3 p.2 _ _ _ _ _ _ g _ c.next_stretch-r.ensures _ b in
    (b.goes, b.here, omega (arith, k, r))

pub loop-k-smaller : goal.loop-k-smaller
loop-k-smaller c = let w = c.next_stretch-r.ensures in omega (arith, w.goes, w.ends)

pub loop-k-preserved : goal.loop-k-preserved
loop-k-preserved c =
    let p = c.requires in
    lays-on _ _ _ _ _ p.3 p.2 _ _ _ _ _ _ c.loop-k.invariant _ c.next_stretch-r.ensures _ c.end_of-next.ensures _ _ c.put_part-bytes.ensures

pub shape_of-out : goal.shape_of-out
shape_of-out c = let p = c.requires in laid_kept _ _ _ _ _ p.3 p.2 _ _ _ _ _ _ c.loop-k.invariant ∙ sym p.3

pub returns : goal.returns
returns c = let p = c.requires in laid-all _ _ _ _ _ p.3 p.2 _ _ _ _ _ _ c.loop-k.invariant (omega arith)
