-- Forbidden strings of at most three bytes, found by the byte that ends them and the two before it.
use Prim.Native.Nat.{ℕ}
use mathlib.Core.Path.{◌≡◌, refl, sym, ap, ap₂, ◌∙◌}
use mathlib.Core.Bool.{Bool, true, false}
use mathlib.Core.List.{List, [], ◌∷◌, ◌++◌, reverse}
use native.Mathlib.Omega.{arith}
use borrow.Author.Tests.{ne_eqb}
use lib.Dec.{T, eqb, leb, leb→le}
use lib.ListN.{length}
use Rattle.base.specs.Choice.{both, any_of}
use Rattle.base.proofs.Choice.{by-test, true-false, both_left, both_right}
use Rattle.base.proofs.Table.{first_of, second-of}
use Rattle.base.proofs.Tests.{one-of-no, one-of-yes, one-of-comm, one-of-first, one-of-second, one-of-swap, both_yes, both-no, both-comm, both-turn}
use Rattle.utf8.specs.Strings.{CR, LF, GREATER, starts_with, starts_with_any, has_any}
use Rattle.utf8.specs.Forbidden.{not_in_line, not_in_payload, forbidden}
use Rattle.utf8.specs.Machine.{ends_forbidden}
use Rattle.utf8.specs.declared.Rule.{Rule}
use Rattle.utf8.specs.declared.Rule.TheVariants.{Any, Line, Payload}

-- no string is longer than three bytes
short : List (List ℕ) → Bool
short [] = true
short (w ∷ ws) = both (leb (length w) 3) (short ws)

forbidden-short : (rule : Rule) → T (short (forbidden rule))
unfolding forbidden short not_in_line not_in_payload
forbidden-short Any = tt
forbidden-short Line = tt
forbidden-short Payload = tt

pub any_none : (s : List ℕ) → has_any [] s ≡ false
unfolding has_any
any_none [] = refl
any_none (b ∷ s) = any_none s

-- one of several strings: the first, or one of the others
any-cons : (w : List ℕ) (ws : List (List ℕ)) (s : List ℕ) → has_any (w ∷ ws) s ≡ any_of (has_any (w ∷ []) s) (has_any ws s)
unfolding has_any
any-cons w ws [] = refl
any-cons w ws (b ∷ s) =
    ap (any_of (starts_with_any (w ∷ ws) (b ∷ s))) (any-cons w ws s)
    ∙ one-of-swap (starts_with w (b ∷ s)) (starts_with_any ws (b ∷ s)) (has_any (w ∷ []) s) (has_any ws s)
    ∙ ap (λ (x : Bool). any_of (any_of x (has_any (w ∷ []) s)) (has_any ws (b ∷ s))) (sym (one-of-no (starts_with w (b ∷ s))))

-- a string that is not in the two bytes before is in all three if it ends with the last
ends-one : (w : List ℕ) (p q b : ℕ) → T (leb (length w) 3) → has_any (w ∷ []) (p ∷ q ∷ []) ≡ false → has_any (w ∷ []) (p ∷ q ∷ b ∷ []) ≡ starts_with (reverse w) (b ∷ q ∷ p ∷ [])
unfolding has_any
ends-one [] p q b t h = refl
ends-one (x ∷ []) p q b t h =
    let k : any_of (eqb p x) (eqb q x) ≡ false = simp (one-of-no, both_yes) at h in
    let kp = one-of-first (eqb p x) (eqb q x) k in
    let kq = one-of-second (eqb p x) (eqb q x) k in
    simp (one-of-no, both_yes, kp, kq)
ends-one (x ∷ y ∷ []) p q b t h =
    let k : both (eqb p x) (eqb q y) ≡ false = simp (one-of-no, both_yes, both-no) at h in
    simp (one-of-no, both_yes, both-no, k) (both-comm (eqb q x) (eqb b y))
ends-one (x ∷ y ∷ z ∷ []) p q b t h = simp (one-of-no, both_yes, both-no) (both-turn (eqb p x) (eqb q y) (eqb b z))
ends-one (x ∷ y ∷ z ∷ u ∷ w) p q b t h = absurd (omega (arith, leb→le (length (x ∷ y ∷ z ∷ u ∷ w)) 3 t))

ends-any : (ws : List (List ℕ)) (p q b : ℕ) → T (short ws) → has_any ws (p ∷ q ∷ []) ≡ false → has_any ws (p ∷ q ∷ b ∷ []) ≡ ends_forbidden ws p q b
unfolding ends_forbidden short starts_with_any
ends-any [] p q b t h = any_none (p ∷ q ∷ b ∷ [])
ends-any (w ∷ ws) p q b t h =
    let k : any_of (has_any (w ∷ []) (p ∷ q ∷ [])) (has_any ws (p ∷ q ∷ [])) ≡ false = sym (any-cons w ws (p ∷ q ∷ [])) ∙ h in
    let here = ends-one w p q b (first_of (leb (length w) 3) (short ws) t) (one-of-first (has_any (w ∷ []) (p ∷ q ∷ [])) (has_any ws (p ∷ q ∷ [])) k) in
    let there = ends-any ws p q b (second-of (leb (length w) 3) (short ws) t) (one-of-second (has_any (w ∷ []) (p ∷ q ∷ [])) (has_any ws (p ∷ q ∷ [])) k) in
    any-cons w ws (p ∷ q ∷ b ∷ []) ∙ ap₂ any_of here there

-- a short string at the beginning: three bytes decide
starts-one : (w : List ℕ) (p q b : ℕ) (xs : List ℕ) → T (leb (length w) 3) → starts_with w (p ∷ q ∷ b ∷ xs) ≡ starts_with w (p ∷ q ∷ b ∷ [])
unfolding starts_with
starts-one [] p q b xs t = refl
starts-one (x ∷ []) p q b xs t = refl
starts-one (x ∷ y ∷ []) p q b xs t = refl
starts-one (x ∷ y ∷ z ∷ []) p q b xs t = refl
starts-one (x ∷ y ∷ z ∷ u ∷ w) p q b xs t = absurd (omega (arith, leb→le (length (x ∷ y ∷ z ∷ u ∷ w)) 3 t))

starts-any : (ws : List (List ℕ)) (p q b : ℕ) (xs : List ℕ) → T (short ws) → starts_with_any ws (p ∷ q ∷ b ∷ xs) ≡ starts_with_any ws (p ∷ q ∷ b ∷ [])
unfolding starts_with_any short
starts-any [] p q b xs t = refl
starts-any (w ∷ ws) p q b xs t =
    ap₂ any_of (starts-one w p q b xs (first_of (leb (length w) 3) (short ws) t)) (starts-any ws p q b xs (second-of (leb (length w) 3) (short ws) t))

-- past a byte that begins no string
slide : (ws : List (List ℕ)) (p q b : ℕ) (xs : List ℕ) → T (short ws) → has_any ws (p ∷ q ∷ b ∷ []) ≡ false
    → (has_any ws (q ∷ b ∷ []) ≡ false) × (has_any ws (p ∷ q ∷ b ∷ xs) ≡ has_any ws (q ∷ b ∷ xs))
unfolding has_any
slide ws p q b xs t h =
    let here = one-of-first (starts_with_any ws (p ∷ q ∷ b ∷ [])) (has_any ws (q ∷ b ∷ [])) h in
    let there = one-of-second (starts_with_any ws (p ∷ q ∷ b ∷ [])) (has_any ws (q ∷ b ∷ [])) h in
    (there, ap (λ (x : Bool). any_of x (has_any ws (q ∷ b ∷ xs))) (starts-any ws p q b xs t ∙ here))

pub starts_more : (w v xs : List ℕ) → starts_with w v ≡ true → starts_with w (v ++ xs) ≡ true
unfolding starts_with
starts_more [] v xs h = refl
starts_more (x ∷ w) [] xs h = true-false false h refl
starts_more (x ∷ w) (b ∷ v) xs h =
    let here = both_left (eqb b x) (starts_with w v) h in
    let there = starts_more w v xs (both_right (eqb b x) (starts_with w v) h) in
    rw (here, there)

starts-any-more : (ws : List (List ℕ)) (v xs : List ℕ) → starts_with_any ws v ≡ true → starts_with_any ws (v ++ xs) ≡ true
unfolding starts_with_any
starts-any-more [] v xs h = h
starts-any-more (w ∷ ws) v xs h =
    by-test (starts_with w v)
    (λ e. rw (starts_more w v xs e))
    (λ e. let k : starts_with_any ws v ≡ true = rw e at h in rw (starts-any-more ws v xs k) (one-of-yes (starts_with w (v ++ xs))))

-- what stands in a text stands in every continuation of it
pub any-more : (ws : List (List ℕ)) (v xs : List ℕ) → has_any ws v ≡ true → has_any ws (v ++ xs) ≡ true
unfolding has_any
any-more ws [] xs h = true-false false h refl
any-more ws (b ∷ v) xs h =
    by-test (starts_with_any ws (b ∷ v))
    (λ e. rw (starts-any-more ws (b ∷ v) xs e))
    (λ e. let k : has_any ws v ≡ true = rw e at h in rw (any-more ws v xs k) (one-of-yes (starts_with_any ws (b ∷ (v ++ xs)))))

-- spaces in front of the text end and begin no forbidden string
pub windows-start : (rule : Rule) (xs : List ℕ) → (has_any (forbidden rule) (32 ∷ 32 ∷ []) ≡ false) × (has_any (forbidden rule) xs ≡ has_any (forbidden rule) (32 ∷ 32 ∷ xs))
unfolding has_any forbidden not_in_line not_in_payload
windows-start Any xs = (refl, refl)
windows-start Line xs = (refl, refl)
windows-start Payload xs = (refl, refl)

module _ (rule : Rule) (p q b : ℕ) (clean : has_any (forbidden rule) (p ∷ q ∷ []) ≡ false) where
  -- whether a forbidden string has ended
  pub windows-ended : has_any (forbidden rule) (p ∷ q ∷ b ∷ []) ≡ ends_forbidden (forbidden rule) p q b
  windows-ended = ends-any (forbidden rule) p q b (forbidden-short rule) clean

  -- past a byte that ends none
  pub windows-turn : ends_forbidden (forbidden rule) p q b ≡ false → (xs : List ℕ)
      → (has_any (forbidden rule) (q ∷ b ∷ []) ≡ false) × (has_any (forbidden rule) (p ∷ q ∷ b ∷ xs) ≡ has_any (forbidden rule) (q ∷ b ∷ xs))
  windows-turn still xs = slide (forbidden rule) p q b xs (forbidden-short rule) (windows-ended ∙ still)

-- a byte that is none of those tested before it
pub other-in-line : (p q b : ℕ) → (b ≡ GREATER → ⊥) → (b ≡ 0 → ⊥) → any_of (eqb b CR) (eqb b LF) ≡ ends_forbidden not_in_line p q b
unfolding ends_forbidden not_in_line starts_with_any
other-in-line p q b g z = simp (ne_eqb b GREATER g, ne_eqb b 0 z, both_yes, one-of-no)

pub other-in-payload : (p q b : ℕ) → (b ≡ GREATER → ⊥) → (b ≡ LF → ⊥) → (b ≡ CR → ⊥) → eqb b 0 ≡ ends_forbidden not_in_payload p q b
unfolding ends_forbidden not_in_payload starts_with_any
other-in-payload p q b g l r = simp (ne_eqb b GREATER g, ne_eqb b LF l, ne_eqb b CR r, both_yes, one-of-no)

-- CR after a line end
pub return-in-payload : (p q : ℕ) → any_of (eqb q CR) (eqb q LF) ≡ ends_forbidden not_in_payload p q CR
unfolding ends_forbidden not_in_payload starts_with_any
return-in-payload p q = simp (both_yes, one-of-no) (one-of-comm (eqb q CR) (eqb q LF))
