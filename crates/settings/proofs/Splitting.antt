-- The words of a text: blanks, a word and what follows give their words one by one.
use Prim.Native.Nat.{ℕ, suc, ◌+◌, ◌≤◌}
use mathlib.Core.Path.{◌≡◌, refl, sym, ap, ◌∙◌}
use mathlib.Core.Logic.{◌⊎◌, inl, inr}
use mathlib.Core.Bool.{Bool, true, false}
use mathlib.Core.List.{List, [], ◌∷◌, ◌++◌, append-nil}
use native.Mathlib.Omega.{arith}
use native.Mathlib.Nat.{add-zero}
use lib.ListN.{length}
use Rattle.base.specs.Choice.{pick}
use Rattle.base.proofs.Choice.{by-test}
use Rattle.timestamps.specs.Timestamps.{All, front, behind}
use Rattle.timestamps.proofs.Runs.{all-behind, all-front, front-behind, behind-begins}
use Rattle.vtt_timing.specs.Timing.{blank, unblank}
use Rattle.vtt_timing.proofs.Grammar.{unblank-blank, unblank-not}
use Rattle.settings.specs.Grammar.{Apart, Ended}
use Rattle.settings.specs.Reading.{begun, words}

-- a byte before a blank, or before the end, is a word by itself
begun-apart : (p b : ℕ) (s : List ℕ) (ws : List (ℕ × List ℕ)) → Apart s → begun p b s ws ≡ (p, b ∷ []) ∷ ws
begun-apart p b [] ws h = refl
begun-apart p b (c ∷ s) [] h = refl
begun-apart p b (c ∷ s) (w ∷ ws) h = rw h

pub words-blank : (b s : List ℕ) (p : ℕ) → All blank b → words p (b ++ s) ≡ words (p + length b) s
unfolding words
words-blank [] s p h = ap (λ (k : ℕ). words k s) (sym (add-zero p))
words-blank (x ∷ b) s p h =
    let e : suc p + length b ≡ p + suc (length b) = omega arith in
    rw h.0 (words-blank b s (suc p) h.1 ∙ ap (λ (k : ℕ). words k s) e)

pub words-word : (w s : List ℕ) (p : ℕ) → All unblank w → 1 ≤ length w → Apart s → words p (w ++ s) ≡ (p, w) ∷ words (p + length w) s
unfolding words
words-word [] s p h k a = absurd (omega arith)
words-word (b ∷ []) s p h k a =
    let e : suc p ≡ p + 1 = omega arith in
    rw (unblank-not b h.0) (begun-apart p b s (words (suc p) s) a ∙ ap (λ (n : ℕ). (p, b ∷ []) ∷ words n s) e)
words-word (b ∷ c ∷ w) s p h k a =
    let e : suc p + suc (length w) ≡ p + suc (suc (length w)) = omega arith in
    let r = words-word (c ∷ w) s (suc p) h.1 (omega arith) a in
    rw (unblank-not b h.0) (ap (begun p b (c ∷ (w ++ s))) r ∙ rw (unblank-not c h.1.0) (ap (λ (n : ℕ). (p, b ∷ c ∷ w) ∷ words n s) e))

begun-some : (p b : ℕ) (s : List ℕ) (ws : List (ℕ × List ℕ)) → begun p b s ws ≡ [] → ⊥
begun-some p b [] ws e = let z : ◌≡◌ {A = ℕ} 0 1 = cc in absurd (omega arith)
begun-some p b (c ∷ s) [] e = let z : ◌≡◌ {A = ℕ} 0 1 = cc in absurd (omega arith)
begun-some p b (c ∷ s) (w ∷ ws) e = go (blank c) e
  where
    go : (t : Bool) → pick t ((p, b ∷ []) ∷ w ∷ ws) ((p, b ∷ w.1) ∷ ws) ≡ [] → ⊥
    go true q = let z : ◌≡◌ {A = ℕ} 0 1 = cc in absurd (omega arith)
    go false q = let z : ◌≡◌ {A = ℕ} 0 1 = cc in absurd (omega arith)

none-blank : (p c : ℕ) (a : List ℕ) → words p (c ∷ a) ≡ [] → blank c ≡ true
unfolding words
none-blank p c a e = by-test (blank c) (λ t. t) (λ t. absurd (begun-some p c a (words (suc p) a) (rw t at e)))

-- behind a blank, or at the start, words begin anew
pub words_append : (a s : List ℕ) (p : ℕ) → Ended a → words p (a ++ s) ≡ words p a ++ words (p + length a) s
unfolding words
words_append [] s p h = ap (λ (k : ℕ). words k s) (sym (add-zero p))
words_append (b ∷ []) s p h = let e : suc p ≡ p + 1 = omega arith in rw h (ap (λ (k : ℕ). words k s) e)
words_append (b ∷ c ∷ a) s p h = go (blank b) refl (words_append (c ∷ a) s (suc p) h)
  where
    e : suc p + suc (length a) ≡ p + suc (suc (length a))
    e = omega arith

    more : List (ℕ × List ℕ)
    more = words (suc p + suc (length a)) s

    joins : (ws : List (ℕ × List ℕ)) → (ws ≡ [] → blank c ≡ true) → begun p b (c ∷ (a ++ s)) (ws ++ more) ≡ begun p b (c ∷ a) ws ++ more
    joins [] n = begun-apart p b (c ∷ (a ++ s)) more (n refl)
    joins (w ∷ ws) n = go₂ (blank c)
      where
        go₂ : (t : Bool) → pick t ((p, b ∷ []) ∷ w ∷ (ws ++ more)) ((p, b ∷ w.1) ∷ (ws ++ more)) ≡ pick t ((p, b ∷ []) ∷ w ∷ ws) ((p, b ∷ w.1) ∷ ws) ++ more
        go₂ true = refl
        go₂ false = refl

    go : (t : Bool) → blank b ≡ t → words (suc p) (c ∷ (a ++ s)) ≡ words (suc p) (c ∷ a) ++ more
        → pick t (words (suc p) (c ∷ (a ++ s))) (begun p b (c ∷ (a ++ s)) (words (suc p) (c ∷ (a ++ s)))) ≡ pick t (words (suc p) (c ∷ a)) (begun p b (c ∷ a) (words (suc p) (c ∷ a))) ++ words (p + suc (suc (length a))) s
    go true q r = r ∙ ap (λ (k : ℕ). words (suc p) (c ∷ a) ++ words k s) e
    go false q r = ap (begun p b (c ∷ (a ++ s))) r ∙ joins (words (suc p) (c ∷ a)) (none-blank (suc p) c a) ∙ ap (λ (k : ℕ). begun p b (c ∷ a) (words (suc p) (c ∷ a)) ++ words k s) e

-- ---- every text is blanks, or blanks, a word, and what is left

pub record Split (s : List ℕ) : Type 0 where
  pub blanks : List ℕ
  pub word : List ℕ
  pub rest : List ℕ
  pub is : s ≡ blanks ++ (word ++ rest)
  pub all-blank : All blank blanks
  pub solid : All unblank word
  pub some : 1 ≤ length word
  pub apart : Apart rest

pub begins-solid : (s : List ℕ) (x : ℕ) (r : List ℕ) → s ≡ x ∷ r → blank x ≡ false → 1 ≤ length (front unblank s)
unfolding front unblank
begins-solid s x r e h = rw (e, h) (omega arith)

pub ends-apart : (s : List ℕ) → Apart (behind unblank s)
ends-apart s = go (behind-begins unblank s)
  where
    go : (behind unblank s ≡ []) ⊎ ((x : ℕ) × (r : List ℕ) × (behind unblank s ≡ x ∷ r) × (unblank x ≡ false)) → Apart (behind unblank s)
    go (inl e) = rw e tt
    go (inr (x, r, e, h)) = rw e (unblank-blank x h)

pub split : (s : List ℕ) → All blank s ⊎ Split s
split s = go (behind-begins blank s)
  where
    go : (behind blank s ≡ []) ⊎ ((x : ℕ) × (r : List ℕ) × (behind blank s ≡ x ∷ r) × (blank x ≡ false)) → All blank s ⊎ Split s
    go (inl e) = inl (all-behind blank s e)
    go (inr (x, r, e, h)) = inr (record {
      blanks = front blank s;
      word = front unblank (behind blank s);
      rest = behind unblank (behind blank s);
      is = sym (front-behind blank s) ∙ ap (λ (y : List ℕ). front blank s ++ y) (sym (front-behind unblank (behind blank s)));
      all-blank = all-front blank s;
      solid = all-front unblank (behind blank s);
      some = begins-solid (behind blank s) x r e h;
      apart = ends-apart (behind blank s);
    })

pub words-split : (b w s : List ℕ) (p : ℕ) → All blank b → All unblank w → 1 ≤ length w → Apart s → words p (b ++ (w ++ s)) ≡ (p + length b, w) ∷ words (p + length b + length w) s
words-split b w s p h k l a = words-blank b (w ++ s) p h ∙ words-word w s (p + length b) k l a

pub words-none : (b : List ℕ) (p : ℕ) → All blank b → words p b ≡ []
unfolding words
words-none b p h = ap (words p) (sym (append-nil b)) ∙ words-blank b [] p h
