-- Laws for writing the lines: one part behind the other, and one line behind the others.
use Prim.Native.Nat.{ℕ, ◌+◌, ◌≤◌, ◌<◌}
use mathlib.Core.Path.{◌≡◌, refl, ap, ◌∙◌}
use mathlib.Core.List.{List, [], ◌∷◌, ◌++◌}
use native.Mathlib.Omega.{arith}
use native.Mathlib.Numerals.{add-one}
use lib.ListN.{length, set, length-append}
use Rattle.base.specs.Over.{over, wrote}
use Rattle.base.proofs.Over.{in_two, then-byte, over-wrote, wrote-over}
use Rattle.decimal.specs.Decimal.{decimal}
use Rattle.listing.specs.Listing.{number_text, pair_text, row_text, rows_text, word, refusal_text}

pub length-number : (n e : ℕ) → length (number_text n e) ≡ length (decimal n) + 1
unfolding number_text
length-number n e = length-append (decimal n) (e ∷ [])

pub length-pair : (n m : ℕ) → length (pair_text n m) ≡ length (number_text n 32) + length (number_text m 10)
unfolding pair_text
length-pair n m = length-append (number_text n 32) (number_text m 10)

-- two writes, one behind the other
pub ended : (d d₁ : List ℕ) (at p n e : ℕ) → d₁ ≡ wrote d at (decimal n) → p ≡ at + length (decimal n) → p < length d → set d₁ p e ≡ wrote d at (number_text n e)
unfolding number_text
ended d d₁ at p n e f q h = then-byte d d₁ (decimal n) at p e f q h

pub paired : (d d₁ d₂ : List ℕ) (at p n m : ℕ) → d₁ ≡ wrote d at (number_text n 32) → d₂ ≡ wrote d₁ p (number_text m 10) → p ≡ at + length (number_text n 32) → p ≤ length d
    → d₂ ≡ wrote d at (pair_text n m)
unfolding pair_text
paired d d₁ d₂ at p n m e f q h = in_two d d₁ d₂ (number_text n 32) (number_text m 10) at p e f q h

-- one line more
pub rows_more : (d₀ d d₁ table : List ℕ) (at k : ℕ) → at ≡ length (rows_text table k) → d ≡ over (rows_text table k) d₀ → d₁ ≡ wrote d at (row_text table k)
    → d₁ ≡ over (rows_text table (k + 1)) d₀
unfolding rows_text
rows_more d₀ d d₁ table at k q e f =
    rw (add-one, rows_text) (f ∙ ap (λ (x : List ℕ). wrote x at (row_text table k)) e ∙ over-wrote (rows_text table k) d₀ (row_text table k) at q)

pub rows-length : (table : List ℕ) (at next k : ℕ) → at ≡ length (rows_text table k) → next ≡ at + length (row_text table k) → next ≡ length (rows_text table (k + 1))
unfolding rows_text
rows-length table at next k q e = rw (add-one, rows_text, length-append) (omega arith)

-- the word and the two numbers, from the front
pub length-refusal : (n p : ℕ) → length (refusal_text n p) ≡ 8 + length (pair_text n p)
unfolding refusal_text
length-refusal n p = length-append word (pair_text n p)

pub refused-text : (d d₁ d₂ : List ℕ) (n p : ℕ) → d₁ ≡ wrote d 0 word → d₂ ≡ wrote d₁ 8 (pair_text n p) → 8 ≤ length d → d₂ ≡ over (refusal_text n p) d
unfolding refusal_text
refused-text d d₁ d₂ n p e f h =
    in_two d d₁ d₂ word (pair_text n p) 0 8 e f refl h ∙ wrote-over d (word ++ pair_text n p)
