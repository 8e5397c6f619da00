-- Laws of loops by `iter`.
use Prim.Native.Nat.{ℕ, ◌+◌, ◌-◌, ◌≤◌}
use mathlib.Core.Path.{◌≡◌, refl}
use native.Mathlib.Omega.{arith}
use native.Mathlib.Numerals.{add-one}
use Rattle.base.specs.Iter.{iter}

module _ {S : Type 0} (f : ℕ → S → S) (s : S) where
  pub iter-zero : s ≡ iter f s 0
  unfolding iter
  iter-zero = refl

  -- one turn
  pub iter-more : (k : ℕ) (x y : S) → x ≡ iter f s k → y ≡ f k x → y ≡ iter f s (k + 1)
  unfolding iter
  iter-more k x y e q = rw (add-one, iter, ← e) q

  -- a loop from place `from` that stands at place i
  pub iter-begins : (from : ℕ) → s ≡ iter f s (from - from)
  unfolding iter
  iter-begins from = let e : from - from ≡ 0 = omega arith in rw e

  pub iter_turn : (from i : ℕ) (x y : S) → from ≤ i → x ≡ iter f s (i - from) → y ≡ f (i - from) x → y ≡ iter f s (i + 1 - from)
  iter_turn from i x y l e q = let n : i + 1 - from ≡ i - from + 1 = omega arith in rw n (iter-more (i - from) x y e q)
