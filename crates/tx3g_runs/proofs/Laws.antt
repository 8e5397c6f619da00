-- Laws of specs/Runs.antt: the styles that are left, one by one.
use Prim.Native.Nat.{ℕ, zero, suc, ◌+◌, ◌-◌, ◌≤◌, ◌<◌}
use mathlib.Core.Path.{◌≡◌, refl}
use mathlib.Core.Bool.{true, false}
use mathlib.Core.List.{List}
use native.Mathlib.Omega.{arith}
use lib.Dec.{leb}
use lib.ListN.{length}
use borrow.Author.Tests.{le-leb, lt-leb}
use Rattle.tx3g_runs.specs.declared.Run.TheVariants.{Plain, End}
use Rattle.tx3g_runs.specs.Runs.{lasts, run_by, run_among, next_run}

module _ (s : List ℕ) (q k n : ℕ) where
  pub next-end : (left : ℕ) → n ≤ k → next_run s left q k n ≡ End
  unfolding next_run
  next-end left h = rw (le-leb n k h)

  pub next_is : (left : ℕ) → k < n → next_run s left q k n ≡ run_among s left q k n
  unfolding next_run
  next_is left h = rw (lt-leb n k h)

  -- no style is left, or its bytes are missing; the first has a character; it has none
  pub among_none : (left : ℕ) → left ≤ 0 → run_among s left q k n ≡ Plain n 0 0
  unfolding run_among
  among_none zero h = refl
  among_none (suc left) h = absurd (omega arith)

  pub among-missing : (left : ℕ) → 0 < left → leb (q + 12) (length s) ≡ false → run_among s left q k n ≡ Plain n 0 0
  unfolding run_among
  among-missing zero h e = absurd (omega arith)
  among-missing (suc left) h e = rw e

  pub among-here : (left : ℕ) → 0 < left → leb (q + 12) (length s) ≡ true → lasts s k q ≡ true → run_among s left q k n ≡ run_by s left q k n
  unfolding run_among
  among-here zero h e t = absurd (omega arith)
  among-here (suc left) h e t = rw (e, t)

  pub among_later : (left : ℕ) → 0 < left → leb (q + 12) (length s) ≡ true → lasts s k q ≡ false → run_among s (left - 1) (q + 12) k n ≡ run_among s left q k n
  unfolding run_among
  among_later zero h e t = absurd (omega arith)
  among_later (suc left) h e t = let p : suc left - 1 ≡ left = omega arith in rw (p, e, t)
