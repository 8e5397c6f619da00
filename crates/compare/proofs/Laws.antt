-- Two lists of numbers, from a place on.
use Prim.Native.Nat.{ℕ, suc, ◌+◌, ◌<◌, ◌≤◌}
use mathlib.Core.Path.{◌≡◌, refl, sym, ap, ◌∙◌}
use mathlib.Core.Logic.{◌≢◌}
use mathlib.Core.Bool.{Bool, true, false, ◌&&◌}
use mathlib.Core.List.{List, []}
use native.Mathlib.Omega.{arith}
use native.Mathlib.Numerals.{add-one}
use lib.Dec.{eqb}
use lib.ListN.{length, get_or, drop, drop_of_length-le}
use lib.Seq.{drop-cons}
use Rattle.base.specs.Choice.{both, same_list}
use Rattle.base.proofs.Choice.{by-test, same-list, list_same}

pub same-lengths : (a b : List ℕ) → length a ≢ length b → same_list a b ≡ false
same-lengths a b h = by-test (same_list a b) (λ e. absurd (h (ap length (same-list a b e)))) (λ e. e)

module _ (a b : List ℕ) (i : ℕ) (q : length a ≡ length b) where
  same_step : i < length a → same_list (drop i a) (drop i b) ≡ both (eqb (get_or a i 0) (get_or b i 0)) (same_list (drop (suc i) a) (drop (suc i) b))
  unfolding same_list
  same_step h = rw (drop-cons a i 0 h, drop-cons b i 0 (omega arith))

  -- what is the same so far and from i on, with the byte at i looked at
  pub same_on : (same t : Bool) (j : ℕ) → j ≡ i → i < length a → both same (same_list (drop i a) (drop i b)) ≡ t
      → both (same && eqb (get_or a i 0) (get_or b j 0)) (same_list (drop (i + 1) a) (drop (i + 1) b)) ≡ t
  same_on true t j e h k = rw (e, add-one) (sym (same_step h) ∙ k)
  same_on false t j e h k = k

  pub same_end : (same : Bool) → length a ≤ i → both same (same_list (drop i a) (drop i b)) ≡ same
  same_end true h = let k : length b ≤ i = omega arith in rw (drop_of_length-le a h, drop_of_length-le b k) (list_same [])
  same_end false h = refl
