-- What the tests for strings mean.
use Prim.Native.Nat.{ℕ, suc, ◌<◌, ◌≤◌}
use mathlib.Core.Path.{◌≡◌, refl, ap, ap₂}
use mathlib.Core.Bool.{true, false}
use mathlib.Core.List.{List, [], ◌∷◌, ◌++◌, Memᴰ}
use native.Mathlib.Omega.{arith}
use native.Mathlib.Nat.{not-suc-le-zero}
use borrow.Author.Tests.{eqb-true, eq-eqb}
use lib.Dec.{eqb}
use lib.ListN.{length}
use Rattle.base.proofs.Choice.{both_left, both_right, by-test, true-false}
use Rattle.base.proofs.Tests.{one-of-yes}
use Rattle.utf8.specs.Strings.{starts_with, agree, starts_with_any, has_any, Holds, HasAnyIs}

pub split : (p s : List ℕ) → starts_with p s ≡ true → (b : List ℕ) × (s ≡ p ++ b)
unfolding starts_with
split [] s h = (s, refl)
split (x ∷ p) [] h = true-false false h refl
split (x ∷ p) (y ∷ s) h =
    let e = eqb-true y x (both_left (eqb y x) (starts_with p s) h) in
    let r = split p s (both_right (eqb y x) (starts_with p s) h) in
    (r.0, ap₂ ◌∷◌ e r.1)

begins : (p b : List ℕ) → starts_with p (p ++ b) ≡ true
unfolding starts_with
begins [] b = refl
begins (x ∷ p) b = rw (eq-eqb x x refl) (begins p b)

split-any : (ps : List (List ℕ)) (s : List ℕ) → starts_with_any ps s ≡ true → (p : List ℕ) × Memᴰ p ps × (b : List ℕ) × (s ≡ p ++ b)
unfolding starts_with_any
split-any [] s h = true-false false h refl
split-any (p ∷ ps) s h =
    by-test (starts_with p s)
    (λ e. let r = split p s e in (p, Memᴰ.head refl, r.0, r.1))
    (λ e. let r = split-any ps s (rw e at h) in (r.0, Memᴰ.tail r.1, r.2, r.3))

begins-any : (ps : List (List ℕ)) (p b : List ℕ) → Memᴰ p ps → starts_with_any ps (p ++ b) ≡ true
unfolding starts_with_any
begins-any [] p b x = elim x [ ]
begins-any (q ∷ ps) p b (Memᴰ.head e) = rw (← e, begins p b)
begins-any (q ∷ ps) p b (Memᴰ.tail m) = rw (begins-any ps p b m) (one-of-yes (starts_with q (p ++ b)))

has_split : (ps : List (List ℕ)) (s : List ℕ) → has_any ps s ≡ true → (p : List ℕ) × Memᴰ p ps × Holds s p
unfolding has_any
has_split ps [] h = true-false false h refl
has_split ps (x ∷ s) h =
    by-test (starts_with_any ps (x ∷ s))
    (λ e. let r = split-any ps (x ∷ s) e in (r.0, r.1, ([], r.2, r.3)))
    (λ e. let r = has_split ps s (rw e at h) in (r.0, r.1, (x ∷ r.2.0, r.2.1, ap (λ (l : List ℕ). x ∷ l) r.2.2)))

has_here : (ps : List (List ℕ)) (p b : List ℕ) → Memᴰ p ps → 0 < length p → has_any ps (p ++ b) ≡ true
unfolding has_any
has_here ps [] b m h = absurd (not-suc-le-zero h)
has_here ps (x ∷ p) b m h = rw (begins-any ps (x ∷ p) b m)

has-after : (ps : List (List ℕ)) (a p b : List ℕ) → Memᴰ p ps → 0 < length p → has_any ps (a ++ (p ++ b)) ≡ true
unfolding has_any
has-after ps [] p b m h = has_here ps p b m h
has-after ps (x ∷ a) p b m h = rw (has-after ps a p b m h) (one-of-yes (starts_with_any ps (x ∷ (a ++ (p ++ b)))))

pub has-any-is : HasAnyIs
has-any-is ps s = (has_split ps s, λ p m h e. rw e.2 (has-after ps e.0 p e.1 m h))

-- as many bytes agree as a string has, exactly where a text begins with it
pub agrees-all : (p s : List ℕ) → length p ≤ agree p s → (starts_with p s ≡ true) × (length p ≤ length s)
unfolding agree starts_with
agrees-all [] s h = (refl, omega arith)
agrees-all (x ∷ p) [] h = absurd (omega arith)
agrees-all (x ∷ p) (b ∷ s) h =
    by-test (eqb b x)
    (λ e. let k : suc (length p) ≤ suc (agree p s) = rw e at h in let w = agrees-all p s (omega arith) in (rw (e, w.0), omega (arith, w.1)))
    (λ e. let k : suc (length p) ≤ 0 = rw e at h in absurd (omega arith))

pub agrees-less : (p s : List ℕ) → agree p s < length p → starts_with p s ≡ false
unfolding agree starts_with
agrees-less [] s h = absurd (omega arith)
agrees-less (x ∷ p) [] h = refl
agrees-less (x ∷ p) (b ∷ s) h =
    by-test (eqb b x)
    (λ e. let k : suc (agree p s) < suc (length p) = rw e at h in rw (e, agrees-less p s (omega arith)))
    (λ e. rw e)
