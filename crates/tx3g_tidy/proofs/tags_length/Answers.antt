use Prim.Native.Nat.{ℕ, ◌<◌}
use lib.ListN.{get_or}
use native.Mathlib.Omega.{arith}
use Rattle.tx3g_payload_write.proofs.Walks.{walk-starts}
use Rattle.tx3g_tidy.proofs.Samples.{good-many, good-few, good-stays}
use Rattle.tx3g_tidy.proofs.Reaching.{walks}
use Rattle.tx3g_tidy.proofs.Measuring.{sets-out, goes_on, comes_home}
use Rattle.tx3g_tidy.proofs.tags_length.Goals as goal

pub find_styles-styles-requires : goal.find_styles-styles-requires
find_styles-styles-requires c = c.requires.0

pub overflow_cast-left : goal.overflow_cast-left
overflow_cast-left c = omega (arith, c.struct_known-1.given.0)

pub loop-k-init : goal.loop-k-init
loop-k-init c =
    let p = c.requires in
    let b : (j : ℕ) → get_or c.args.s.now j 0 < 256 = λ j. (c.type_inv.s j).fits in
    sets-out _ _ _ _ _ (good-many _ _ _ p.0 b p.1) (good-stays _ _ _ p.0 b p.1) (walk-starts _ _ c.find_styles-styles.ensures)

pub next_stretch-r-requires : goal.next_stretch-r-requires
next_stretch-r-requires c = (c.requires.0, c.loop-k-test.true, walks _ _ _ _ _ _ c.loop-k.invariant.on c.loop-k-test.true)

pub tags_size-n-requires : goal.tags_size-n-requires
tags_size-n-requires c = tt

pub overflow_add-n : goal.overflow_add-n
overflow_add-n c =
    let g = c.loop-k.invariant in
    let p = c.requires in
    omega (arith, g.most, g.on.here, c.tags_size-n.ensures.1, good-few _ _ _ p.0 (λ j. (c.type_inv.s j).fits) p.1)

pub loop-k-smaller : goal.loop-k-smaller
loop-k-smaller c = let w = c.next_stretch-r.ensures in omega (arith, w.goes, w.ends)

pub loop-k-preserved : goal.loop-k-preserved
loop-k-preserved c = goes_on _ _ _ _ _ _ _ c.loop-k.invariant _ c.next_stretch-r.ensures _ c.tags_size-n.ensures

pub returns : goal.returns
returns c =
    let w = comes_home _ _ _ _ _ _ _ c.loop-k.invariant (omega arith) in
    let p = c.requires in
    (w.0, omega (arith, w.1, good-few _ _ _ p.0 (λ j. (c.type_inv.s j).fits) p.1))
