-- The tests of bytes, joined.
use Prim.Native.Nat.{ℕ, zero, suc, ◌<◌}
use mathlib.Core.Path.{◌≡◌, refl, sym, ap, ap₂, ◌∙◌}
use mathlib.Core.Bool.{Bool, true, false, not}
use mathlib.Core.List.{List, [], ◌∷◌}
use native.Mathlib.Omega.{arith}
use mir.Val.{bool_byte}
use lib.Bits.{bit_and, bit_or}
use lib.Dec.{eqb}
use lib.ListN.{length, get_or, get_or-eq_default}
use Rattle.base.specs.Choice.{pick, both, any_of}
use Rattle.base.specs.Iter.{iter}
use Rattle.base.proofs.Tests.{both_yes}
use Rattle.ascii.proofs.Blocks.{or-none, mark-none}
use Rattle.utf8.specs.Strings.{CR, LF}
use Rattle.tx3g_tidy.specs.Tidy.{stays, stay_first, tidy}

-- a test as a number
pub one-if : (t : Bool) → bool_byte t ≡ pick t 1 0
one-if true = refl
one-if false = refl

neither : (a b : Bool) → both (not a) (not b) ≡ not (any_of a b)
neither true b = refl
neither false b = refl

and_none : (a b : Bool) → eqb (bit_and (pick a 1 0) (pick b 1 0)) 0 ≡ not (both a b)
and_none true true = refl
and_none true false = refl
and_none false true = refl
and_none false false = refl

pub marks_stay : (b next u v p q : ℕ) → u ≡ pick (eqb b 0) 1 0 → v ≡ pick (eqb b CR) 1 0 → p ≡ pick (eqb b LF) 1 0 → q ≡ pick (eqb next LF) 1 0
    → eqb (bit_or (bit_or u v) (bit_and p q)) 0 ≡ stays b next
unfolding stays
marks_stay b next u v p q eu ev ep eq = rw (eu, ev, ep, eq, or-none, or-none, and_none, mark-none, mark-none, neither)

-- a byte of a list, whatever is taken where there is none
pub same_at : (s : List ℕ) (k d e : ℕ) → k < length s → get_or s k d ≡ get_or s k e
same_at [] k d e l = absurd (omega arith)
same_at (b ∷ s) zero d e l = refl
same_at (b ∷ s) (suc k) d e l = same_at s k d e (omega arith)

both-on : (a b c : Bool) → both (both a b) c ≡ both a (both b c)
both-on true b c = refl
both-on false b c = refl

-- x is 0 exactly if the first byte is no LF and each of the first i stays
abbrev pub StaysTo : List ℕ → ℕ → ℕ → Type 0
StaysTo s i x = eqb x 0 ≡ both (not (eqb (get_or s 0 LF) LF)) (stay_first s i)

module _ (s : List ℕ) where
  pub stay-begin : (x : ℕ) → 0 < length s → x ≡ pick (eqb (get_or s 0 0) LF) 1 0 → StaysTo s 0 x
  unfolding stay_first iter
  stay-begin x l e = ap (λ (k : ℕ). eqb k 0) e ∙ mark-none (eqb (get_or s 0 0) LF) ∙ ap (λ (b : ℕ). not (eqb b LF)) (same_at s 0 0 LF l) ∙ sym (both_yes (not (eqb (get_or s 0 LF) LF)))

  -- one byte more, in front of `next`
  stay-next : (i x y next : ℕ) → i < length s → next ≡ get_or s (suc i) LF → StaysTo s i x → eqb y 0 ≡ stays (get_or s i 0) next → StaysTo s (suc i) (bit_or x y)
  unfolding stay_first iter
  stay-next i x y next l n e f =
      let h : Bool = not (eqb (get_or s 0 LF) LF) in
      or-none x y
      ∙ ap₂ both e (f ∙ ap₂ stays (same_at s i 0 LF l) n)
      ∙ both-on h (stay_first s i) (stays (get_or s i LF) (get_or s (suc i) LF))

  pub stay-more : (i x y : ℕ) → suc i < length s → StaysTo s i x → eqb y 0 ≡ stays (get_or s i 0) (get_or s (suc i) 0) → StaysTo s (suc i) (bit_or x y)
  stay-more i x y l e f = stay-next i x y (get_or s (suc i) 0) (omega arith) (same_at s (suc i) 0 LF l) e f

  pub stay-end : (i x y : ℕ) → suc i ≡ length s → StaysTo s i x → eqb y 0 ≡ stays (get_or s i 0) LF → eqb (bit_or x y) 0 ≡ tidy s
  unfolding tidy
  stay-end i x y l e f =
      stay-next i x y LF (omega arith) (sym (get_or-eq_default s LF (omega arith))) e f
      ∙ ap (λ (k : ℕ). both (not (eqb (get_or s 0 LF) LF)) (stay_first s k)) l

  pub stay_none : length s ≡ 0 → false ≡ tidy s
  unfolding tidy
  stay_none l = sym (ap (λ (b : ℕ). both (not (eqb b LF)) (stay_first s (length s))) (get_or-eq_default s LF {n = 0} (omega arith)))
