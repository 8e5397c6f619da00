-- Settings of different names may be placed in any order; names among settings.
use Prim.Native.Nat.{ℕ}
use mathlib.Core.Path.{◌≡◌, refl, sym, ap, ◌∙◌}
use mathlib.Core.Logic.{◌⊎◌, inl, inr}
use mathlib.Core.Bool.{true, false}
use mathlib.Core.List.{List, [], ◌∷◌, ◌++◌, map, append-nil}
use lib.Dec.{eqb}
use borrow.Author.Tests.{eqb-true, eq-eqb}
use Rattle.base.proofs.Choice.{by-test, true-false}
use Rattle.base.proofs.Tests.{one-of-yes}
use Rattle.settings.specs.Grammar.{Setting, vertical, line, position, size, align, region, name_of, Among, Once, Record, placed, record_of}
use Rattle.settings.specs.Reading.{has}

-- ---- placing

commute : (t u : Setting) (r : Record) → (name_of t ≡ name_of u → ⊥) → placed t (placed u r) ≡ placed u (placed t r)
commute (vertical v) (vertical v₂) r h = absurd (h refl)
commute (vertical v) (line l₂ a₂) r h = refl
commute (vertical v) (position p₂ a₂) r h = refl
commute (vertical v) (size n₂) r h = refl
commute (vertical v) (align b₂) r h = refl
commute (vertical v) (region w₂) r h = refl
commute (line l a) (vertical v₂) r h = refl
commute (line l a) (line l₂ a₂) r h = absurd (h refl)
commute (line l a) (position p₂ a₂) r h = refl
commute (line l a) (size n₂) r h = refl
commute (line l a) (align b₂) r h = refl
commute (line l a) (region w₂) r h = refl
commute (position p a) (vertical v₂) r h = refl
commute (position p a) (line l₂ a₂) r h = refl
commute (position p a) (position p₂ a₂) r h = absurd (h refl)
commute (position p a) (size n₂) r h = refl
commute (position p a) (align b₂) r h = refl
commute (position p a) (region w₂) r h = refl
commute (size n) (vertical v₂) r h = refl
commute (size n) (line l₂ a₂) r h = refl
commute (size n) (position p₂ a₂) r h = refl
commute (size n) (size n₂) r h = absurd (h refl)
commute (size n) (align b₂) r h = refl
commute (size n) (region w₂) r h = refl
commute (align b) (vertical v₂) r h = refl
commute (align b) (line l₂ a₂) r h = refl
commute (align b) (position p₂ a₂) r h = refl
commute (align b) (size n₂) r h = refl
commute (align b) (align b₂) r h = absurd (h refl)
commute (align b) (region w₂) r h = refl
commute (region w) (vertical v₂) r h = refl
commute (region w) (line l₂ a₂) r h = refl
commute (region w) (position p₂ a₂) r h = refl
commute (region w) (size n₂) r h = refl
commute (region w) (align b₂) r h = refl
commute (region w) (region w₂) r h = absurd (h refl)

-- ---- settings in the order of reading, the last one first

abbrev pub onto : List Setting → List Setting → List Setting
onto [] m = m
onto (t ∷ ts) m = onto ts (t ∷ m)

pub among-onto : (n : ℕ) (ts m : List Setting) → Among n (onto ts m) → Among n ts ⊎ Among n m
among-onto n [] m h = inr h
among-onto n (t ∷ ts) m h = go (among-onto n ts (t ∷ m) h)
  where
    go : Among n ts ⊎ ((name_of t ≡ n) ⊎ Among n m) → ((name_of t ≡ n) ⊎ Among n ts) ⊎ Among n m
    go (inl a) = inl (inr a)
    go (inr (inl e)) = inl (inl e)
    go (inr (inr a)) = inr a

pub onto-last : (n : ℕ) (ts m : List Setting) → Among n m → Among n (onto ts m)
onto-last n [] m h = h
onto-last n (t ∷ ts) m h = onto-last n ts (t ∷ m) (inr h)

pub onto-among : (n : ℕ) (ts m : List Setting) → Among n ts → Among n (onto ts m)
onto-among n [] m x = elim x [ ]
onto-among n (t ∷ ts) m (inl e) = onto-last n ts (t ∷ m) (inl e)
onto-among n (t ∷ ts) m (inr h) = onto-among n ts (t ∷ m) h

-- no name of the one is a name of the other
abbrev Disjoint : List Setting → List Setting → Type 0
Disjoint [] m = Unit {0}
Disjoint (t ∷ ts) m = (Among (name_of t) m → ⊥) × Disjoint ts m

disjoint-nil : (ts : List Setting) → Disjoint ts []
disjoint-nil [] = tt
disjoint-nil (t ∷ ts) = (λ h. h, disjoint-nil ts)

disjoint-less : (ts : List Setting) (t : Setting) (m : List Setting) → Disjoint ts (t ∷ m) → Disjoint ts m
disjoint-less [] t m h = tt
disjoint-less (u ∷ ts) t m h = (λ a. h.0 (inr a), disjoint-less ts t m h.1)

disjoint-not : (ts : List Setting) (t : Setting) (m : List Setting) → Disjoint ts (t ∷ m) → Among (name_of t) ts → ⊥
disjoint-not [] t m h x = elim x [ ]
disjoint-not (u ∷ ts) t m h (inl e) = h.0 (inl (sym e))
disjoint-not (u ∷ ts) t m h (inr a) = disjoint-not ts t m h.1 a

disjoint-more : (ts : List Setting) (t : Setting) (m : List Setting) → (Among (name_of t) ts → ⊥) → Disjoint ts m → Disjoint ts (t ∷ m)
disjoint-more [] t m f h = tt
disjoint-more (u ∷ ts) t m f h = (go, disjoint-more ts t m (λ a. f (inr a)) h.1)
  where
    go : (name_of t ≡ name_of u) ⊎ Among (name_of u) m → ⊥
    go (inl e) = f (inl (sym e))
    go (inr a) = h.0 a

parts-onto : (ts m : List Setting) → Once (onto ts m) → Once ts × Once m × Disjoint ts m
parts-onto [] m h = (tt, h, tt)
parts-onto (t ∷ ts) m h =
    let r = parts-onto ts (t ∷ m) h in
    ((disjoint-not ts t m r.2, r.0), r.1.1, (r.1.0, disjoint-less ts t m r.2))

onto_parts : (ts m : List Setting) → Once ts → Once m → Disjoint ts m → Once (onto ts m)
onto_parts [] m h k d = k
onto_parts (t ∷ ts) m h k d = onto_parts ts (t ∷ m) h.1 (d.0, k) (disjoint-more ts t m h.0 d.1)

pub once_last : (ts m : List Setting) → Once (onto ts m) → Once m
once_last ts m h = (parts-onto ts m h).1

pub once-text : (ts : List Setting) → Once (onto ts []) → Once ts
once-text ts h = (parts-onto ts [] h).0

pub text-once : (ts : List Setting) → Once ts → Once (onto ts [])
text-once ts h = onto_parts ts [] h tt (disjoint-nil ts)

-- the first of them may be placed last
placed-last : (t : Setting) (ts m : List Setting) → (Among (name_of t) ts → ⊥) → record_of (ts ++ t ∷ m) ≡ placed t (record_of (ts ++ m))
unfolding record_of
placed-last t [] m f = refl
placed-last t (u ∷ ts) m f = ap (placed u) (placed-last t ts m (λ a. f (inr a))) ∙ commute u t (record_of (ts ++ m)) (λ e. f (inl e))

record-order : (ts m : List Setting) → Once ts → record_of (onto ts m) ≡ record_of (ts ++ m)
unfolding record_of
record-order [] m h = refl
record-order (t ∷ ts) m h = record-order ts (t ∷ m) h.1 ∙ placed-last t ts m h.0

pub record-onto : (ts : List Setting) → Once ts → record_of (onto ts []) ≡ record_of ts
record-onto ts h = record-order ts [] h ∙ ap record_of (append-nil ts)

-- ---- names as numbers

pub has-among : (n : ℕ) (m : List Setting) → has n (map name_of m) ≡ true → Among n m
unfolding has
has-among n [] h = true-false false h refl
has-among n (t ∷ m) h = by-test (eqb n (name_of t)) (λ e. inl (sym (eqb-true n (name_of t) e))) (λ f. inr (has-among n m (rw f at h)))

pub among-has : (n : ℕ) (m : List Setting) → Among n m → has n (map name_of m) ≡ true
unfolding has
among-has n [] x = elim x [ ]
among-has n (t ∷ m) (inl e) = rw (eq-eqb n (name_of t) (sym e))
among-has n (t ∷ m) (inr h) = rw (among-has n m h) (one-of-yes (eqb n (name_of t)))
