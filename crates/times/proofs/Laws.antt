-- Laws of ticks and milliseconds.
use Prim.Native.Nat.{ℕ, zero, suc, min, ◌+◌, ◌*◌, ◌/◌, ◌%◌, ◌<◌, ◌≤◌}
use mathlib.Core.Path.{◌≡◌, refl, ap}
use mathlib.Core.Bool.{true, false}
use native.Mathlib.Omega.{arith}
use native.Mathlib.Nat.{div-add-mod', mod-lt, mul-le-mul_right, le_refl}
use lib.Dec.{leb, eqb}
use borrow.Author.Tests.{leb-true, le-leb, eqb-true, eqb-false, eq-eqb, ne_eqb}
use Rattle.base.specs.Choice.{both, within}
use Rattle.base.proofs.Choice.{both_left, both_right, by-test, either, product}
use Rattle.times.specs.Times.{tick, quotient_up, back, scale_allowed, timeline_allowed, Limits, TickBack, BackTick}

-- rounded up: enough, and no more than enough
pub up-enough : (a n : ℕ) → 0 < n → a ≤ quotient_up a n * n
unfolding quotient_up
up-enough a n h =
    let e = div-add-mod' a n in
    let r = mod-lt a h in
    by-test (eqb (a % n) 0) (λ z. rw z (omega (arith, eqb-true (a % n) 0 z))) (λ z. rw z (omega arith))

pub up_least : (a n m : ℕ) → 0 < n → a ≤ m * n → quotient_up a n ≤ m
unfolding quotient_up
up_least a n m h k =
    let e = div-add-mod' a n in
    by-test (eqb (a % n) 0)
    (λ z. rw z (either (suc m) (a / n) (λ l. absurd (omega (arith, mul-le-mul_right n l))) (λ l. omega arith)))
    (λ z. rw z (either m (a / n) (λ l. absurd (eqb-false (a % n) 0 z (omega (arith, mul-le-mul_right n l)))) (λ l. omega arith)))

-- the time of a tick is the first that is not before it
pub back-enough : (scale t : ℕ) → 0 < scale → t * 1000 ≤ back scale t * scale
unfolding back
back-enough scale t h = up-enough (t * 1000) scale h

pub back-least : (scale t m : ℕ) → 0 < scale → t * 1000 ≤ m * scale → back scale t ≤ m
unfolding back
back-least scale t m h k = up_least (t * 1000) scale m h k

pub back-most : (scale t : ℕ) → 0 < scale → back scale t ≤ t * 1000
back-most scale t h = back-least scale t (t * 1000) h (omega (arith, product (t * 1000) 1 (t * 1000) scale (le_refl (t * 1000)) h))

-- the two cases of rounding up
back-even : (scale t : ℕ) → 0 < scale → t * 1000 % scale ≡ 0 → (t * 1000 / scale ≡ back scale t) × (t * 1000 / scale ≤ t * 1000)
unfolding back
back-even scale t h z =
    let e : t * 1000 / scale ≡ back scale t = rw (eq-eqb (t * 1000 % scale) 0 z) (omega arith) in
    (e, omega (arith, back-most scale t h))

back_more : (scale t : ℕ) → 0 < scale → (t * 1000 % scale ≡ 0 → ⊥) → (t * 1000 / scale + 1 ≡ back scale t) × (t * 1000 / scale + 1 ≤ t * 1000)
unfolding back
back_more scale t h z =
    let e : t * 1000 / scale + 1 ≡ back scale t = rw (ne_eqb (t * 1000 % scale) 0 z) in
    (e, omega (arith, back-most scale t h))

pub back-ceil : (scale t : ℕ) → 0 < scale → (t * 1000 / scale + min 1 (t * 1000 % scale) ≡ back scale t) × (t * 1000 / scale + min 1 (t * 1000 % scale) ≤ t * 1000)
back-ceil scale t h =
    by-test (eqb (t * 1000 % scale) 0)
    (λ z. let e = eqb-true (t * 1000 % scale) 0 z in let r = back-even scale t h e in (omega (arith, e, r.0), omega (arith, e, r.1)))
    (λ z. let e = eqb-false (t * 1000 % scale) 0 z in let r = back_more scale t h e in (omega (arith, e, r.0), omega (arith, e, r.1)))

-- the same of a quotient rounded up, however its two numbers are written
pub ceil_is : (scale t n d r : ℕ) → r ≡ n / d + min 1 (n % d) → n ≡ t * 1000 → d ≡ scale → 0 < scale → (r ≡ back scale t) × (r ≤ t * 1000)
ceil_is scale t n d r e p q h =
    let k : r ≡ t * 1000 / scale + min 1 (t * 1000 % scale) = rw (← p, ← q) e in
    rw k (back-ceil scale t h)

pub tick-mono : (scale m n : ℕ) → m ≤ n → tick scale m ≤ tick scale n
unfolding tick
tick-mono scale m n h = omega (arith, mul-le-mul_right scale h)

pub back-mono : (scale a b : ℕ) → 0 < scale → a ≤ b → back scale a ≤ back scale b
back-mono scale a b h k = back-least scale a (back scale b) h (omega (arith, back-enough scale b h))

-- the tick of a tick's time is no earlier
pub tick-back-ge : (scale t : ℕ) → 0 < scale → t ≤ tick scale (back scale t)
unfolding tick
tick-back-ge scale t h = omega (arith, back-enough scale t h)

pub tick-back : TickBack
unfolding tick
tick-back scale t h k =
    either (suc t * 1000) (back scale t * scale)
    (λ l. absurd (far (back scale t) refl l))
    (λ l. omega (arith, back-enough scale t h))
  where
    far : (m : ℕ) → back scale t ≡ m → suc t * 1000 ≤ back scale t * scale → ⊥
    far zero e l = omega (arith, ap (λ (x : ℕ). x * scale) e)
    far (suc m) e l = omega (arith, ap (λ (x : ℕ). x * scale) e, back-least scale t m h (omega (arith, ap (λ (x : ℕ). x * scale) e)))

pub back-tick : BackTick
unfolding tick
back-tick scale m h =
    let l : 0 < scale = omega arith in
    let low = back-least scale (tick scale m) m l (omega arith) in
    either m (back scale (tick scale m))
    (λ k. omega arith)
    (λ k. absurd (omega (arith, back-enough scale (tick scale m) l, mul-le-mul_right scale k)))

-- at a scale of 1,000 or less different ticks have different times
pub back-less : (scale a b : ℕ) → 0 < scale → scale ≤ 1000 → a < b → back scale a < back scale b
back-less scale a b l h k =
    either (back scale b) (back scale a)
    (λ n. absurd (omega (arith, tick-mono scale (back scale b) (back scale a) n, tick-back scale a l h, tick-back scale b l h)))
    (λ n. n)

-- what the limits say
within-is : (low high x : ℕ) → within low high x ≡ true → (low ≤ x) × (x ≤ high)
unfolding within
within-is low high x h = (leb-true low x (both_left (leb low x) (leb x high) h), leb-true x high (both_right (leb low x) (leb x high) h))

pub scale-limits : (scale : ℕ) → scale_allowed scale ≡ true → (1 ≤ scale) × (scale ≤ 1000000)
unfolding scale_allowed
scale-limits scale h = within-is 1 1000000 scale h

pub timeline-limits : (scale T : ℕ) → timeline_allowed scale T ≡ true → Limits scale T
unfolding timeline_allowed
timeline-limits scale T h =
    let s = scale_allowed scale in
    let m = within 1 359999999 T in
    let t = within 1 4294967295 (tick scale T) in
    let rest = both_right s (both m t) h in
    let a = scale-limits scale (both_left s (both m t) h) in
    let b = within-is 1 359999999 T (both_left m t rest) in
    let c = within-is 1 4294967295 (tick scale T) (both_right m t rest) in
    record { some_scale = a.0; scale_most = a.1; some_time = b.0; time_most = b.1; some_tick = c.0; tick_most = c.1 }

limits-within : (low high x : ℕ) → low ≤ x → x ≤ high → within low high x ≡ true
unfolding within
limits-within low high x h k = rw (le-leb low x h) (le-leb x high k)

pub limits-timeline : (scale T : ℕ) → Limits scale T → timeline_allowed scale T ≡ true
unfolding timeline_allowed scale_allowed
limits-timeline scale T l =
    rw (limits-within 1 1000000 scale l.some_scale l.scale_most, limits-within 1 359999999 T l.some_time l.time_most)
    (limits-within 1 4294967295 (tick scale T) l.some_tick l.tick_most)

-- a time above the largest is no timeline
pub ms-above : (scale m : ℕ) → 359999999 < m → timeline_allowed scale m ≡ false
ms-above scale m h = by-test (timeline_allowed scale m) (λ e. absurd (omega (arith, h, (timeline-limits scale m e).time_most))) (λ e. e)
