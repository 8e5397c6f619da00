-- A run of characters in one range, or in none, is the first of the longest stretches.
use Prim.Native.Nat.{ℕ, zero, suc, ◌+◌, ◌≤◌, ◌<◌}
use mathlib.Core.Path.{◌≡◌, refl, sym, ap, ap₂, ◌∙◌}
use mathlib.Core.Logic.{◌⊎◌, inl, inr}
use mathlib.Core.Bool.{Bool, false}
use mathlib.Core.Option.{Option}
use mathlib.Core.List.{List, [], ◌∷◌, ◌++◌, append-nil}
use native.Mathlib.Omega.{arith}
use lib.ListN.{length, drop}
use Rattle.base.proofs.Choice.{by-test}
use Rattle.timeline.specs.Cues.{same_id as same_mark}
use Rattle.timeline.proofs.Running.{same_id_lem, id_same}
use Rattle.tx3g_payload.specs.Left.{is_break, left_of}
use Rattle.tx3g_payload.specs.Payload.{Stretch, each_of, onto, stretches}
use Rattle.tx3g_payload_write.specs.Terms.{lefts_of, after_of}

abbrev pub one : Option ℕ → List ℕ → Stretch
one n l = record { mark = n; left = l }

-- a character in front of a stretch of its own range, and of another's
onto_same : (m : Option ℕ) (a b : List ℕ) (qs : List Stretch) → onto (one m a) (one m b ∷ qs) ≡ one m (a ++ b) ∷ qs
unfolding onto
onto_same m a b qs = rw (id_same m)

onto-other : (m n : Option ℕ) (a b : List ℕ) (qs : List Stretch) → same_mark m n ≡ false → onto (one m a) (one n b ∷ qs) ≡ one m a ∷ one n b ∷ qs
unfolding onto
onto-other m n a b qs h = rw h

-- the first stretch is in the range of the first character
pub record Headed (m : Option ℕ) (ss : List Stretch) : Type 0 where
  pub left : List ℕ
  pub others : List Stretch
  pub is : ss ≡ one m left ∷ others

headed-onto : (m : Option ℕ) (a : List ℕ) (qs : List Stretch) → Headed m (onto (one m a) qs)
unfolding onto
headed-onto m a [] = record { left = a; others = []; is = refl }
headed-onto m a (q ∷ qs) =
    by-test (same_mark m q.mark)
    (λ e. record { left = a ++ q.left; others = qs; is = rw (e, same_id_lem m q.mark e) })
    (λ e. record { left = a; others = q ∷ qs; is = rw e })

module _ (ranges : ℕ → Option ℕ) where
  headed : (k : ℕ) (after : Bool) (c : ℕ) (cs : List ℕ) → Headed (ranges k) (stretches (each_of ranges k after (c ∷ cs)))
  unfolding stretches each_of
  headed k after c cs = headed-onto (ranges k) (left_of after c cs) (stretches (each_of ranges (suc k) (is_break c) cs))

  -- the characters from k to before x are in range m, and that at x, if there is one, is not
  pub stretches-run : (m : Option ℕ) (d k x : ℕ) (after : Bool) (cs : List ℕ) → x ≡ k + suc d → ((j : ℕ) → k ≤ j → j < x → ranges j ≡ m) → d < length cs
      → (length cs ≡ suc d) ⊎ (same_mark m (ranges x) ≡ false)
      → stretches (each_of ranges k after cs) ≡ one m (lefts_of after (suc d) cs) ∷ stretches (each_of ranges x (after_of after (suc d) cs) (drop (suc d) cs))
  unfolding stretches each_of lefts_of after_of onto
  stretches-run m d k x after [] e same l ends = absurd (omega arith)
  stretches-run m zero k x after (c ∷ []) e same l ends =
      rw (same k (omega arith) (omega arith), append-nil (left_of after c []))
  stretches-run m zero k x after (c ∷ b ∷ cs) e same l (inl h) = absurd (omega arith)
  stretches-run m zero k x after (c ∷ b ∷ cs) e same l (inr h) =
      let f : x ≡ suc k = omega arith in
      let w = headed (suc k) (is_break c) b cs in
      let g : same_mark m (ranges (suc k)) ≡ false = rw f at h in
      rw (f, append-nil (left_of after c (b ∷ cs)))
      (ap₂ (λ (n : Option ℕ) (ss : List Stretch). onto (one n (left_of after c (b ∷ cs))) ss) (same k (omega arith) (omega arith)) w.is
      ∙ (onto-other m (ranges (suc k)) (left_of after c (b ∷ cs)) w.left w.others g
      ∙ ap (λ (ss : List Stretch). one m (left_of after c (b ∷ cs)) ∷ ss) (sym w.is)))
  stretches-run m (suc d) k x after (c ∷ cs) e same l ends =
      let r = stretches-run m d (suc k) x (is_break c) cs (omega arith) (λ j h u. same j (omega arith) u) (omega arith) (shorter ends) in
      ap₂ (λ (n : Option ℕ) (ss : List Stretch). onto (one n (left_of after c cs)) ss) (same k (omega arith) (omega arith)) r
      ∙ onto_same m (left_of after c cs) (lefts_of (is_break c) (suc d) cs) _
    where
      shorter : (length (c ∷ cs) ≡ suc (suc d)) ⊎ (same_mark m (ranges x) ≡ false) → (length cs ≡ suc d) ⊎ (same_mark m (ranges x) ≡ false)
      shorter (inl h) = inl (omega arith)
      shorter (inr h) = inr h
