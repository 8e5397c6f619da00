-- Laws of the first number that passes a test.
use Prim.Native.Nat.{ℕ, zero, suc, ◌+◌, ◌<◌, ◌≤◌}
use mathlib.Core.Path.{◌≡◌, refl}
use mathlib.Core.Bool.{Bool, true, false}
use mathlib.Core.Option.{none, some}
use native.Mathlib.Omega.{arith}
use native.Mathlib.Decide.{dec_lt}
use Rattle.base.specs.First.{or_else, first_from, first}

from-none : (P : ℕ → Bool) (c i : ℕ) → ((j : ℕ) → i ≤ j → j < i + c → P j ≡ false) → first_from P c i ≡ none
unfolding first_from
from-none P zero i h = refl
from-none P (suc c) i h = rw (h i (omega arith) (omega arith)) (from-none P c (suc i) (λ j a b. h j (omega arith) (omega arith)))

from_some : (P : ℕ → Bool) (c i k : ℕ) → i ≤ k → k < i + c → P k ≡ true → ((j : ℕ) → i ≤ j → j < k → P j ≡ false) → first_from P c i ≡ some k
unfolding first_from
from_some P zero i k a b p h = absurd (omega arith)
from_some P (suc c) i k a b p h = go (dec_lt i k) (λ x y z. from_some P c (suc i) k x y p z)
  where
    go : Dec (i < k) → (suc i ≤ k → k < suc i + c → ((j : ℕ) → suc i ≤ j → j < k → P j ≡ false) → first_from P c (suc i) ≡ some k)
        → or_else (P i) i (λ _. first_from P c (suc i)) ≡ some k
    go (yes l) rest = rw (h i (omega arith) l) (rest (omega arith) (omega arith) (λ j x y. h j (omega arith) y))
    go (no l) rest = let e : i ≡ k = omega arith in rw (e, p)

pub first-none : (P : ℕ → Bool) (n : ℕ) → ((j : ℕ) → j < n → P j ≡ false) → first P n ≡ none
unfolding first
first-none P n h = from-none P n 0 (λ j a b. h j (omega arith))

pub first_some : (P : ℕ → Bool) (n k : ℕ) → k < n → P k ≡ true → ((j : ℕ) → j < k → P j ≡ false) → first P n ≡ some k
unfolding first
first_some P n k l p h = from_some P n 0 k (omega arith) (omega arith) p (λ j a b. h j b)
