-- A text that is left as it is: so is each part of it.
use Prim.Native.Nat.{ℕ, zero, suc, ◌≤◌}
use mathlib.Core.Path.{◌≡◌, refl, ap, ap₂, ◌∙◌}
use mathlib.Core.Logic.{◌⊎◌, inl, inr, ⊎_elim}
use mathlib.Core.Bool.{Bool}
use mathlib.Core.List.{List, [], ◌∷◌, ◌++◌}
use native.Mathlib.Omega.{arith}
use lib.ListN.{length, take, drop}
use Rattle.base.specs.Choice.{any_of}
use Rattle.base.proofs.Choice.{by-test}
use Rattle.utf8.specs.Strings.{LF}
use Rattle.tx3g_payload.specs.Left.{is_break, only_breaks, left_of, left_from}
use Rattle.tx3g_payload_write.specs.Terms.{lefts_of, after_of}

-- of a character nothing is left, or one
one-or-none : (after : Bool) (c : ℕ) (cs : List ℕ) → (left_of after c cs ≡ []) ⊎ ((x : ℕ) × (left_of after c cs ≡ x ∷ []))
unfolding left_of
one-or-none after c cs =
    by-test (is_break c)
    (λ b. by-test (any_of after (only_breaks cs)) (λ g. inl (rw (b, g))) (λ g. inr (LF, rw (b, g))))
    (λ b. inr (c, rw b))

left-most : (after : Bool) (cs : List ℕ) → length (left_from after cs) ≤ length cs
unfolding left_from
left-most after [] = omega arith
left-most after (c ∷ cs) =
    let l = left-most (is_break c) cs in
    ⊎_elim (λ h. rw h (omega (arith, l))) (λ h. rw h.1 (omega (arith, l))) (one-or-none after c cs)

-- none is missing, so each stays
pub stays-first : (after : Bool) (c : ℕ) (cs : List ℕ) → left_from after (c ∷ cs) ≡ c ∷ cs → (left_of after c cs ≡ c ∷ []) × (left_from (is_break c) cs ≡ cs)
unfolding left_from
stays-first after c cs e = go (one-or-none after c cs)
  where
    go : (left_of after c cs ≡ []) ⊎ ((x : ℕ) × (left_of after c cs ≡ x ∷ [])) → (left_of after c cs ≡ c ∷ []) × (left_from (is_break c) cs ≡ cs)
    go (inl h) =
        let z : left_from (is_break c) cs ≡ c ∷ cs = rw h at e in
        absurd (omega (arith, ap length z, left-most (is_break c) cs))
    go (inr h) =
        let z : h.0 ∷ left_from (is_break c) cs ≡ c ∷ cs = rw h.1 at e in
        let x : h.0 ≡ c = cc in
        (h.1 ∙ ap (λ (a : ℕ). a ∷ []) x, cc)

-- of the first m characters all are left
pub lefts-stay : (after : Bool) (m : ℕ) (cs : List ℕ) → left_from after cs ≡ cs → lefts_of after m cs ≡ take m cs
unfolding lefts_of
lefts-stay after zero cs e = refl
lefts-stay after (suc m) [] e = refl
lefts-stay after (suc m) (c ∷ cs) e =
    let w = stays-first after c cs e in
    ap₂ (λ (a b : List ℕ). a ++ b) w.0 (lefts-stay (is_break c) m cs w.1)

-- and of those behind them
pub rest-stays : (after : Bool) (m : ℕ) (cs : List ℕ) → left_from after cs ≡ cs → left_from (after_of after m cs) (drop m cs) ≡ drop m cs
unfolding after_of
rest-stays after zero cs e = e
rest-stays after (suc m) [] e = e
rest-stays after (suc m) (c ∷ cs) e = rest-stays (is_break c) m cs (stays-first after c cs e).1
