-- A time of 100 hours or more is refused, whatever it is taken for.
use Prim.Native.Nat.{ℕ, min, ◌≤◌}
use mathlib.Core.Path.{◌≡◌}
use mathlib.Core.Bool.{false}
use mathlib.Core.List.{List}
use native.Mathlib.Omega.{arith}
use borrow.Author.Tests.{le-leb, lt-ltb, leb-false, ltb-false}
use lib.Dec.{leb, ltb}
use Rattle.base.specs.Choice.{any_of}
use Rattle.base.proofs.Choice.{either, by-test}
use Rattle.base.proofs.Tests.{one-of-yes, one-of-first, one-of-second}
use Rattle.times.specs.Times.{tick}
use Rattle.cues.specs.Caption.{caption, bad_times, judge_content}

module _ (scale a b : ℕ) where
  -- the times may be taken for 100 hours where they are more
  times_capped : bad_times scale 359999999 (min a 360000000) (min b 360000000) ≡ bad_times scale 359999999 a b
  unfolding bad_times
  times_capped =
      either b 359999999
      (λ l. either b a
      (λ k. rw (le-leb (min b 360000000) (min a 360000000) (omega arith), le-leb b a k))
      (λ k. let p : min a 360000000 ≡ a = omega arith in let q : min b 360000000 ≡ b = omega arith in rw (p, q)))
      (λ l. simp (lt-ltb 359999999 (min b 360000000) (omega arith), lt-ltb 359999999 b l, one-of-yes))

  -- times that are taken are at most the largest
  pub times-early : bad_times scale 359999999 a b ≡ false → (a ≤ 359999999) × (b ≤ 359999999)
  unfolding bad_times
  times-early h =
      let x = leb-false b a (one-of-first (leb b a) (any_of (ltb 359999999 b) (leb (tick scale b) (tick scale a))) h) in
      let y = ltb-false 359999999 b (one-of-first (ltb 359999999 b) (leb (tick scale b) (tick scale a)) (one-of-second (leb b a) (any_of (ltb 359999999 b) (leb (tick scale b) (tick scale a))) h)) in
      (omega arith, omega arith)

  pub content-capped : (before p : ℕ) (i t y : List ℕ)
      → judge_content scale 359999999 before (caption (min a 360000000) (min b 360000000) i t y) p ≡ judge_content scale 359999999 before (caption a b i t y) p
  unfolding judge_content
  content-capped before p i t y =
      by-test (bad_times scale 359999999 a b)
      (λ e. rw (times_capped, e))
      (λ e. let q : min a 360000000 ≡ a = omega (arith, (times-early e).0) in rw (times_capped, e, q))
