-- Laws for a read: whether it failed, and what stands at the front of its buffer. The number that it answered is y; the machine reads it back as z.
use Prim.Native.Nat.{ℕ, min}
use mathlib.Core.Path.{◌≡◌, refl, sym, ap, ap₂, ◌∙◌}
use mathlib.Core.Bool.{Bool, true, false}
use mathlib.Core.Logic.{by_cases}
use mathlib.Core.List.{List, [], ◌∷◌}
use native.Mathlib.Omega.{arith}
use native.Mathlib.Nat.{lt_of_le_of_lt}
use native.Mathlib.Decide.{dec_le}
use lib.Dec.{T}
use lib.IntN.{ℤ, pos, negsuc, nat_abs}
use lib.ListN.{length, take, length-take}
use lib.Pow.{pow-lt}
use lib.Seq.{take_all}
use lib.Signed.{lt_z, non_neg, nat_abs-le}
use mir.Facts.{Fits-of_lt}
use mir.Syntax.{w64}
use mir.Val.{Fits, SFits}
use borrow.Author.Tests.{ltb-true}
use Rattle.base.specs.Choice.{any_of}
use Rattle.base.proofs.Choice.{true-false}
use Rattle.input.specs.Reading.{fed}
use Rattle.input.specs.Reads.{is_wrong, none, chunk_by, chunk_of}
use Rattle.input.specs.declared.Reading.{Reading}
use Rattle.input.specs.declared.Reading.TheVariants.{Wrong}

pub not-failed : (z : ℤ) → lt_z z (pos 0) ≡ false → T (non_neg z)
not-failed (pos k) h = tt
not-failed (negsuc k) h = true-false true refl h

-- without its sign an answer fits
pub unsigned-fits : (z : ℤ) → SFits w64 z → Fits w64 (nat_abs z)
unsigned-fits z f = Fits-of_lt (lt_of_le_of_lt (nat_abs-le z f.sfits) (pow-lt {i = 63} {j = 64} (omega arith)))

take-least : (k : ℕ) (s : List ℕ) → take (min k (length s)) s ≡ take k s
take-least k s =
    by_cases (dec_le k (length s))
    (λ h. let e : min k (length s) ≡ k = omega arith in ap (λ (n : ℕ). take n s) e)
    (λ h. take_all (min k (length s)) s (omega arith) ∙ sym (take_all k s (omega arith)))

none_of : (x : List ℕ) → length x ≡ 0 → none x ≡ true
none_of [] h = refl
none_of (b ∷ x) h = absurd (omega arith)

some_of : (x : List ℕ) → (length x ≡ 0 → ⊥) → none x ≡ false
some_of [] h = absurd (h refl)
some_of (b ∷ x) h = refl

module _ (r : Reading) (s : List ℕ) where
  wrong : (z : ℤ) → lt_z z (pos 0) ≡ true → record { state = Wrong; last = true } ≡ chunk_of r z s
  wrong (pos k) h = let l = ltb-true k 0 h in absurd (omega arith)
  wrong (negsuc k) h = refl

  -- the front of the buffer is what the read moved
  front : (z : ℤ) (n : ℕ) → lt_z z (pos 0) ≡ false → n ≡ min (nat_abs z) (length s) → chunk_by r (take n s) ≡ chunk_of r z s
  front (pos k) n h g = ap (λ (m : ℕ). chunk_by r (take m s)) g ∙ ap (chunk_by r) (take-least k s)
  front (negsuc k) n h g = true-false true refl h

  module _ {z y : ℤ} (e : z ≡ y) where
    pub failed : lt_z z (pos 0) ≡ true → record { state = Wrong; last = true } ≡ chunk_of r y s
    failed h = wrong z h ∙ ap (λ (x : ℤ). chunk_of r x s) e

    module _ (n : ℕ) (next : Reading) (h : lt_z z (pos 0) ≡ false) (g : n ≡ min (nat_abs z) (length s)) (f : next ≡ fed r (take n s)) where
      made : (l : Bool) → l ≡ any_of (none (take n s)) (is_wrong (fed r (take n s))) → record { state = next; last = l } ≡ chunk_of r y s
      unfolding chunk_by
      made l p = ap₂ (λ (x : Reading) (b : Bool). record { state = x; last = b }) f p ∙ front z n h g ∙ ap (λ (x : ℤ). chunk_of r x s) e

      -- no bytes are the end
      pub at-end : n ≡ 0 → record { state = next; last = true } ≡ chunk_of r y s
      at-end i = made true (rw (none_of (take n s) (length-take n s ∙ omega arith)))

      pub not_yet : (n ≡ 0 → ⊥) → (w : Bool) → w ≡ is_wrong next → record { state = next; last = w } ≡ chunk_of r y s
      not_yet i w p =
          let q = some_of (take n s) (λ l. i (omega (arith, l, length-take n s))) in
          made w (p ∙ ap is_wrong f ∙ ap (λ (b : Bool). any_of b (is_wrong (fed r (take n s)))) (sym q))
