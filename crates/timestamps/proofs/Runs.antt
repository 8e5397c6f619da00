-- Lists of bytes that all pass a test.
use Prim.Native.Nat.{ℕ}
use mathlib.Core.Path.{◌≡◌, refl, ap}
use mathlib.Core.Logic.{◌⊎◌, inl, inr}
use mathlib.Core.Bool.{Bool, true, false}
use mathlib.Core.List.{List, [], ◌∷◌, ◌++◌}
use native.Mathlib.Omega.{arith}
use Rattle.base.proofs.Choice.{by-test}
use Rattle.timestamps.specs.Timestamps.{All, front, behind}

pub all_append : (p : ℕ → Bool) (a b : List ℕ) → All p a → All p b → All p (a ++ b)
all_append p [] b h k = k
all_append p (x ∷ a) b h k = (h.0, all_append p a b h.1 k)

-- a run that passes, up to a byte that does not, or to the end
pub front-stop : (p : ℕ → Bool) (a : List ℕ) (x : ℕ) (r : List ℕ) → All p a → p x ≡ false → front p (a ++ x ∷ r) ≡ a
unfolding front
front-stop p [] x r h k = rw k
front-stop p (b ∷ a) x r h k = rw h.0 (ap (λ (s : List ℕ). b ∷ s) (front-stop p a x r h.1 k))

pub front-all : (p : ℕ → Bool) (a : List ℕ) → All p a → front p a ≡ a
unfolding front
front-all p [] h = refl
front-all p (b ∷ a) h = rw h.0 (ap (λ (s : List ℕ). b ∷ s) (front-all p a h.1))

pub behind-stop : (p : ℕ → Bool) (a : List ℕ) (x : ℕ) (r : List ℕ) → All p a → p x ≡ false → behind p (a ++ x ∷ r) ≡ x ∷ r
unfolding behind
behind-stop p [] x r h k = rw k
behind-stop p (b ∷ a) x r h k = rw h.0 (behind-stop p a x r h.1 k)

pub behind-all : (p : ℕ → Bool) (a : List ℕ) → All p a → behind p a ≡ []
unfolding behind
behind-all p [] h = refl
behind-all p (b ∷ a) h = rw h.0 (behind-all p a h.1)

-- what a test leaves: all of it passes where nothing is left
pub all-behind : (p : ℕ → Bool) (s : List ℕ) → behind p s ≡ [] → All p s
unfolding behind
all-behind p [] h = tt
all-behind p (b ∷ s) h = by-test (p b) (λ e. (e, all-behind p s (rw e at h))) (λ e. let q : b ∷ s ≡ [] = rw e at h in let z : ◌≡◌ {A = ℕ} 0 1 = cc in absurd (omega arith))

-- the run passes, and it and what is left are the text
pub all-front : (p : ℕ → Bool) (s : List ℕ) → All p (front p s)
unfolding front
all-front p [] = tt
all-front p (b ∷ s) = by-test (p b) (λ e. rw e (e, all-front p s)) (λ e. rw e tt)

pub front-behind : (p : ℕ → Bool) (s : List ℕ) → front p s ++ behind p s ≡ s
unfolding front behind
front-behind p [] = refl
front-behind p (b ∷ s) = by-test (p b) (λ e. rw e (ap (λ (x : List ℕ). b ∷ x) (front-behind p s))) (λ e. rw e)

-- what is left is nothing, or begins with a byte that fails
pub behind-begins : (p : ℕ → Bool) (s : List ℕ) → (behind p s ≡ []) ⊎ ((x : ℕ) × (r : List ℕ) × (behind p s ≡ x ∷ r) × (p x ≡ false))
unfolding behind
behind-begins p [] = inl refl
behind-begins p (b ∷ s) = by-test (p b) (λ e. rw e (behind-begins p s)) (λ e. rw e (inr (b, s, refl, e)))
