-- Timestamps that rise, read one by one: each is at least `low`, which is 0 at first and one more than the last behind it.
use Prim.Native.Nat.{ℕ, suc, ◌≤◌}
use mathlib.Core.Path.{◌≡◌, refl}
use mathlib.Core.Logic.{inl, inr}
use mathlib.Core.List.Memᴰ
use mathlib.Core.List.{List, [], ◌∷◌, ◌++◌, Memᴰ}
use native.Mathlib.Omega.{arith}
use Rattle.timeline.specs.Packing.{Rising}

unfoldable pub Above : ℕ → List ℕ → Type 0
Above low [] = Unit {0}
Above low (t ∷ ts) = (low ≤ t) × Above (suc t) ts

-- the least time behind them
unfoldable pub next : ℕ → List ℕ → ℕ
next low [] = low
next low (t ∷ ts) = next (suc t) ts

pub next-append : (low : ℕ) (us ts : List ℕ) → next low (us ++ ts) ≡ next (next low us) ts
unfolding next
next-append low [] ts = refl
next-append low (u ∷ us) ts = next-append (suc u) us ts

pub above-append : (low : ℕ) (us ts : List ℕ) → Above low us → Above (next low us) ts → Above low (us ++ ts)
unfolding Above next
above-append low [] ts a b = b
above-append low (u ∷ us) ts a b = (a.0, above-append (suc u) us ts a.1 b)

pub above_apart : (low : ℕ) (us ts : List ℕ) → Above low (us ++ ts) → Above low us × Above (next low us) ts
unfolding Above next
above_apart low [] ts a = (tt, a)
above_apart low (u ∷ us) ts a = let r = above_apart (suc u) us ts a.1 in ((a.0, r.0), r.1)

-- they rise

least : (low : ℕ) (ts : List ℕ) → Above low ts → (y : ℕ) → Memᴰ y ts → low ≤ y
unfolding Above
least low [] a y m = absurd (Memᴰ.not-nil m)
least low (t ∷ ts) a y m = elim (Memᴰ.cases_cons m) [
  | inl e ↦ omega (arith, a.0)
  | inr k ↦ omega (arith, a.0, least (suc t) ts a.1 y k)
]

pub above-rising : (low : ℕ) (ts : List ℕ) → Above low ts → Rising ts
unfolding Above Rising
above-rising low [] a = tt
above-rising low (t ∷ ts) a = (λ y m. least (suc t) ts a.1 y m, above-rising (suc t) ts a.1)

pub rising-above : (low : ℕ) (ts : List ℕ) → ((y : ℕ) → Memᴰ y ts → low ≤ y) → Rising ts → Above low ts
unfolding Above Rising
rising-above low [] h r = tt
rising-above low (t ∷ ts) h r = (h t (Memᴰ.head refl), rising-above (suc t) ts r.0 r.1)
